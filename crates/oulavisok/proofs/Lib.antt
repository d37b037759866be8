pub mod Six
pub mod Telling
