pub mod Deciding
pub mod Room
pub mod Telling
pub mod Texts
pub mod Example
