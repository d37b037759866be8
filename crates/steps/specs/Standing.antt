-- A node of each tree as the code holds them, what it reads there, and one level down (document 01, "A cursor splits into its two children"). Assumes nothing.
use Rattle.std.specs.Prelude.{◌≡◌, Bool, cond, List, ℕ, ◌-◌, ◌≤◌, ◌<◌, length, get_or, Float}
use Rattle.std.specs.Float.{nan}
use Rattle.written.specs.LentTree.{Cursor, near, far, axis}
use Rattle.written.specs.Boxes.{Boxes}
use Rattle.written.specs.NodePairs.{NodePair, on_side, moved}
use Rattle.cursor.specs.Held.{node_of, Splits, side_of}
use Rattle.steps.specs.declared.nodes.Nodes.{Nodes}
use Rattle.steps.specs.declared.descent.Descent.{Descent}
use Rattle.cursor.specs.declared.lent.Side.{Side as HeldSide}
use Rattle.cursor.specs.declared.lent.Side.TheVariants.{Left, Right}

-- the node pair, with the boxes of both
abbrev pub pair_at : Nodes → Boxes → NodePair
pair_at at b = record { left = node_of at.left; right = node_of at.right; boxes = b }

pub record Ordered (at : Nodes) : Type 0 where
  pub left : at.left.first.0 ≤ at.left.end.0
  pub right : at.right.first.0 ≤ at.right.end.0

-- ---- points under a node

-- a node's leaves have starts, which rise
pub record Within (starts : List ℕ) (c : Cursor) : Type 0 where
  pub first_read : c.first < length starts
  pub end_read : c.end < length starts
  pub rising : get_or starts c.first 0 ≤ get_or starts c.end 0
  pub few : get_or starts c.end 0 ≤ 65536

abbrev pub points_of : List ℕ → Cursor → ℕ
points_of starts c = get_or starts c.end 0 - get_or starts c.first 0

-- ---- one level down

-- the side that is split, by whether it is the right one
abbrev pub side_by : Bool → HeldSide
side_by right = cond right Right Left

-- the node on the side that is split
abbrev pub chosen : HeldSide → Nodes → Cursor
chosen side at = on_side (side_of side) (node_of at.left) (node_of at.right)

-- it splits, and its pivot is among its tree's stems
pub record SplitsAt (K : ℕ) (lstems rstems : List Float) (side : HeldSide) (at : Nodes) : Type 0 where
  pub some_axis : 0 < K
  pub splits : Splits (chosen side at)
  pub stem_read : (chosen side at).stem < length (on_side (side_of side) lstems rstems)

-- both halves, the axis, and the pivot
pub record Descended (K : ℕ) (lstems rstems : List Float) (side : HeldSide) (at : Nodes) (r : Descent) : Type 0 where
  pub to_near : (b : Boxes) → pair_at r.near b ≡ moved (side_of side) (near (chosen side at)) b (pair_at at b)
  pub to_far : (b : Boxes) → pair_at r.far b ≡ moved (side_of side) (far (chosen side at)) b (pair_at at b)
  pub on_axis : r.axis ≡ axis K (chosen side at)
  pub by_pivot : r.pivot ≡ get_or (on_side (side_of side) lstems rstems) (chosen side at).stem nan
