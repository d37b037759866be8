pub mod Edges
pub mod Flat
pub mod Lent
