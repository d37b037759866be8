-- The arithmetic of rounded numbers, in the order to read it: what that of specs/ gives in numbers, what is proved of it. Assumes nothing.
-- What it gives, in numbers
pub mod Vectors
-- What is proved of it
pub mod Fraction
pub mod Order
pub mod Signs
pub mod Squares
pub mod Finite
pub mod Sums
pub mod Exact
pub mod Boxes
