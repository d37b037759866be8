pub mod Framed
pub mod Fits
pub mod Same
pub mod Recorded
