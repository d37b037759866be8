pub mod Lent
pub mod Sums
pub mod Kept
pub mod Fits
pub mod Gathering
