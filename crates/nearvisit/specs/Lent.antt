-- What a visit is lent of the distances held. Assumes nothing.
use Rattle.std.specs.Prelude.{List, ℕ, ◌≤◌, length, get_or, Float}
use Rattle.cursor.specs.Held.{node_of}
use Rattle.steps.specs.declared.nodes.Nodes.{Nodes}
use Rattle.steps.specs.Standing.{Within}

-- the distances of the left span can be read
pub record HeldUnder (lstarts : List ℕ) (distances : List Float) (at : Nodes) : Type 0 where
  pub left_within : Within lstarts (node_of at.left)
  pub held_read : get_or lstarts at.left.end.0 0 ≤ length distances
