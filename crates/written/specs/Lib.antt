-- Document 01 as definitions, in its order
pub mod Places
pub mod LentTree
pub mod Check
pub mod Boxes
pub mod Visits
pub mod NodePairs
pub mod Tiles
pub mod RadiusWalk
pub mod Nearest
pub mod Totals
pub mod Answers
pub mod Spacing
-- Its statements, which proofs/ proves of them
pub mod Rules
pub mod Calls
