-- What the code asks where a visit ends: the points under both nodes can be read. Assumes nothing.
use Rattle.std.specs.Prelude.{List, ℕ, get_or, Float}
use Rattle.cursor.specs.Held.{node_of}
use Rattle.leaf.specs.Lent.{LeafPair}
use Rattle.cursor.specs.declared.lent.Trees.{Trees}
use Rattle.steps.specs.declared.nodes.Nodes.{Nodes}
use Rattle.steps.specs.Standing.{Within}

pub record Leaves (K : ℕ) (lstarts litems : List ℕ) (lcoords : List Float) (rstarts ritems : List ℕ) (rcoords : List Float) (at : Nodes) : Type 0 where
  pub left_within : Within lstarts (node_of at.left)
  pub right_within : Within rstarts (node_of at.right)
  pub pair : LeafPair K litems lcoords (get_or lstarts at.left.first.0 0) (get_or lstarts at.left.end.0 0) ritems rcoords (get_or rstarts at.right.first.0 0) (get_or rstarts at.right.end.0 0)

-- of both lent trees
abbrev pub LeavesOf : Trees → Nodes → Type 0
LeavesOf t at = Leaves t.k t.left.starts.now t.left.items.now t.left.coords.now t.right.starts.now t.right.items.now t.right.coords.now at
