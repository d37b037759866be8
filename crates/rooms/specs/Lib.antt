pub mod Rooms
pub mod Emitted
pub mod Stored
