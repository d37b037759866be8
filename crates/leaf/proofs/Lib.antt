pub mod Growing
pub mod Gathered
pub mod Hits
pub mod Keeping
pub mod Parts
pub mod Tiled
