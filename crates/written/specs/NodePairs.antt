-- Document 01, "The radius walk": a node of each tree, with the boxes of both; and what one visit does with it. Nearest visits in the same way.
-- Definitions alone. Assumes nothing.
use Rattle.std.specs.Prelude.{Bool, true, false, not, ◌&&◌, ◌||◌, cond, ℕ, ◌+◌, ◌*◌, ltb, eqb, Float}
use Rattle.written.specs.Places.{Part}
use Rattle.written.specs.LentTree.{Tree, places, Cursor, root, span, is_leaf, near, far, axis, pivot, part}
use Rattle.written.specs.Check.{is_top}
use Rattle.written.specs.Boxes.{Trees, Boxes, everywhere, lowered, raised}
use Rattle.written.specs.Visits.{measured, ruled, whole, Step, ends, goes, forks}

-- ---- node pairs

pub data Side : Type 0 where
  left_side right_side : Side

pub record NodePair : Type 0 where
  pub left : Cursor
  pub right : Cursor
  pub boxes : Boxes

-- what stands on that side, of two
abbrev pub on_side : {X : Type 0} → Side → X → X → X
on_side left_side l r = l
on_side right_side l r = r

abbrev pub tree_of : Trees → Side → Tree
tree_of j x = on_side x j.left j.right

abbrev pub cursor_of : Side → NodePair → Cursor
cursor_of x s = on_side x s.left s.right

-- where a side's numbers begin in the boxes
abbrev pub corner : Side → ℕ
corner x = on_side x 0 4

-- the node pair with that side's cursor, and the boxes, put anew
abbrev pub moved : Side → Cursor → Boxes → NodePair → NodePair
moved x c b s = record { left = on_side x c s.left; right = on_side x s.right c; boxes = b }

abbrev pub root_pair : Trees → NodePair
root_pair j = record { left = root j.left; right = root j.right; boxes = everywhere }

-- the stem levels of both trees together
abbrev pub stem_levels : Trees → ℕ
stem_levels j = (root j.left).rest + (root j.right).rest

-- ---- the places under it

abbrev pub left_part : Trees → NodePair → Part
left_part j s = part j.left s.left

abbrev pub right_part : Trees → NodePair → Part
right_part j s = part j.right s.right

-- how many pairs of places are under it
abbrev pub area : Trees → NodePair → ℕ
area j s = (left_part j s).size * (right_part j s).size

-- all places of a tree
abbrev pub all_places : Tree → Part
all_places t = record { from = 0; size = places t }

-- ---- one visit

abbrev pub no_leaf : NodePair → Bool
no_leaf s = eqb (span s.left) 0 || eqb (span s.right) 0

-- split the left, unless it is a leaf, or the right isn't and spans more leaves
abbrev pub splits_right : NodePair → Bool
splits_right s = is_leaf s.left || (not (is_leaf s.right) && ltb (span s.left) (span s.right))

abbrev pub picked : NodePair → Side
picked s = cond (splits_right s) right_side left_side

module _ (j : Trees) where
  -- where the boxes change when a side is split, and the pivot, from the stems of the tree on that side
  abbrev pub cut_at : Side → NodePair → ℕ
  cut_at x s = corner x + axis j.axes (cursor_of x s)

  abbrev pub cut_by : Side → NodePair → Float
  cut_by x s = pivot (tree_of j x) (cursor_of x s)

  -- the near half with its max lowered to the pivot; the far half with its min raised to it
  abbrev pub near_half : Side → NodePair → NodePair
  near_half x s = moved x (near (cursor_of x s)) (lowered s.boxes (cut_at x s) (cut_by x s)) s

  abbrev pub far_half : Side → NodePair → NodePair
  far_half x s = moved x (far (cursor_of x s)) (raised s.boxes (cut_at x s) (cut_by x s)) s

  -- a pivot of +inf gives no far half
  abbrev pub halves : Bool → Side → NodePair → Step NodePair
  halves true x s = goes (moved x (near (cursor_of x s)) s.boxes s)
  halves false x s = forks (near_half x s) (far_half x s)

  unfoldable pub split : Side → NodePair → Step NodePair
  split x s = halves (is_top (cut_by x s)) x s

  -- both at leaves: measure; else split
  abbrev pub descend : Bool → NodePair → Step NodePair
  descend true s = ends measured
  descend false s = split (picked s) s

  -- what a visit does, by whether it is ruled out and whether it may be taken whole
  abbrev pub visit : Bool → Bool → NodePair → Step NodePair
  visit true all s = ends ruled
  visit false true s = ends whole
  visit false false s = descend (is_leaf s.left && is_leaf s.right) s
