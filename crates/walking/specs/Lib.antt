pub mod Orders
pub mod Visited
