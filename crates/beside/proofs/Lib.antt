pub mod Held
pub mod Laid
