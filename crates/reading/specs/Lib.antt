pub mod Little
pub mod Trees
pub mod Lays
pub mod Held
pub mod Laws
pub mod Header
pub mod BadJob
pub mod Mode
