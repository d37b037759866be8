-- Examples
pub mod Table
pub mod Stands
pub mod Rows
pub mod Refusals
pub mod Examples
-- Laws
pub mod Laws
-- Theorems
pub mod Nodes
pub mod Checked
pub mod Right
pub mod Accounted
pub mod Limits
pub mod Answered
