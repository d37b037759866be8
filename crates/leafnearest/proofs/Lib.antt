pub mod Changed
pub mod Improved
pub mod Stored
