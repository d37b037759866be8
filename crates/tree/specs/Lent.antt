-- A lent tree as the code holds it: its four buffers (document 01, "A lent tree"), and how far a tree is checked when its nodes are. Assumes nothing.
use Rattle.std.specs.Prelude.{List, Bool, not, ◌&&◌, ◌||◌, ℕ, length, get_or, eqb, Float}
use Rattle.std.specs.Float.{nan}
use Rattle.std.specs.Float.Ieee.{lt}
use Rattle.written.specs.LentTree.{Tree, Cursor, Node}
use Rattle.written.specs.Check.{every, is_top, rule₁, rule₂, rule₃, rule₄, left_ok, right_ok, top_ok}
use Rattle.written.specs.Rules.{Kept}

abbrev pub tree_of : List ℕ → List Float → List ℕ → List Float → Tree
tree_of starts stems items coords = record { starts = starts; stems = stems; items = items; coords = coords }

-- rules 1 and 2 are kept: lengths can be reckoned
pub record Sized (K : ℕ) (t : Tree) : Type 0 where
  pub axes : Kept K t rule₁
  pub sizes : Kept K t rule₂

-- rules 1 to 4 are kept, and c is a node: it can be read
pub record Stands (K : ℕ) (t : Tree) (c : Cursor) : Type 0 where
  pub sized : Sized K t
  pub lengths : Kept K t rule₃
  pub starts_kept : Kept K t rule₄
  pub node : Node t c

-- rule 7 for the coordinates of two halves on one axis
abbrev pub none_above : List Float → Float → Bool
none_above l pivot = every (λ i. not (lt pivot (get_or l i nan))) 0 (length l)

abbrev pub none_below : List Float → Float → Bool
none_below l pivot = every (λ i. not (lt (get_or l i nan) pivot)) 0 (length l)

abbrev pub halves_ok : List Float → List Float → Float → Bool
halves_ok left right pivot = none_above left pivot && none_below right pivot && (not (is_top pivot) || eqb (length right) 0)

-- rule 7 at one node
abbrev pub order_at : ℕ → Tree → Cursor → Bool
order_at K t c = left_ok K t c && right_ok K t c && top_ok K t c
