pub mod Lent
pub mod Standing
pub mod Counted
pub mod Ending
pub mod Popping
