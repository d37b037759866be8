pub mod NoneAbove
pub mod BoxFar
pub mod Unchanged
pub mod OneOf
