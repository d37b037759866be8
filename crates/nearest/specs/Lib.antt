pub mod Lent
pub mod Walked
pub mod Executed
pub mod Setting
pub mod Carrying
