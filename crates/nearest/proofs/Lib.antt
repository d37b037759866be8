pub mod HeldDistances
pub mod FirstPlaces
pub mod Whole
pub mod Chosen
pub mod Turning
