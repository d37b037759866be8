pub mod Chosen
pub mod Bounded
pub mod Turning
