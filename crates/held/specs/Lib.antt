pub mod Largest
pub mod Apart
