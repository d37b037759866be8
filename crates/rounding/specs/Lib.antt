-- The arithmetic of rounded numbers: what is computed. What that gives in numbers, and what is proved of it, stands in proofs/. Assumes nothing.
pub mod Distance
pub mod Bounds
