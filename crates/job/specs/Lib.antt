pub mod Printed
pub mod Shown
pub mod Demands
pub mod Reached
