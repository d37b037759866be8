-- Document 01, "The radius walk": rounded distances of places, boxes with their bounds, and the edge rule. All in binary64.
-- Definitions alone. Assumes nothing.
use Rattle.std.specs.Prelude.{List, Bool, true, false, cond, ℕ, ◌+◌, get_or, set, replicate, Float}
use Rattle.std.specs.Float.{nan, inf, binary64}
use Rattle.std.specs.Float.Ieee.{le, lt}
use Rattle.rounding.specs.Distance.{Row, distance as distance_of_rows}
use Rattle.rounding.specs.Bounds.{lower as lower_of_rows, upper as upper_of_rows}
use Rattle.written.specs.LentTree.{Tree, coord}

-- the two trees of a join, over K axes
pub record Trees : Type 0 where
  pub axes : ℕ
  pub left : Tree
  pub right : Tree

-- a place's coordinates, by axis
abbrev pub point : Tree → ℕ → Row
point t p d = coord t d p

-- the squared distance of a left and a right place: squared differences, summed from 0 in axis order
unfoldable pub distance : Trees → ℕ → ℕ → Float
unfolding distance_of_rows
distance j p q = distance_of_rows binary64 (point j.left p) (point j.right q) j.axes

-- ---- boxes

-- Both boxes, flat: the left side's axis d stands at d, the right side's at 4 + d.
pub record Boxes : Type 0 where
  pub mins : List Float
  pub maxs : List Float

-- boxes start at -inf and +inf on each axis of each side
abbrev pub everywhere : Boxes
everywhere = record { mins = replicate 8 (inf true); maxs = replicate 8 (inf false) }

-- a side lowered to the pivot, and raised to it; never assigned, since a pivot may lie outside the box
abbrev pub lowered_to : Float → Float → Float
lowered_to v old = cond (lt v old) v old

abbrev pub raised_to : Float → Float → Float
raised_to v old = cond (lt old v) v old

-- one max lowered, one min raised
abbrev pub lowered : Boxes → ℕ → Float → Boxes
lowered b i v = record { mins = b.mins; maxs = set b.maxs i (lowered_to v (get_or b.maxs i nan)) }

abbrev pub raised : Boxes → ℕ → Float → Boxes
raised b i v = record { mins = set b.mins i (raised_to v (get_or b.mins i nan)); maxs = b.maxs }

-- the numbers from the place i on, by axis
abbrev pub sides : List Float → ℕ → Row
sides l i d = get_or l (i + d) nan

-- the box lower bound and the upper bound over K axes
unfoldable pub lower : ℕ → Boxes → Float
unfolding lower_of_rows
lower K b = lower_of_rows binary64 (sides b.mins 0) (sides b.maxs 0) (sides b.mins 4) (sides b.maxs 4) K

unfoldable pub upper : ℕ → Boxes → Float
unfolding upper_of_rows
upper K b = upper_of_rows binary64 (sides b.mins 0) (sides b.maxs 0) (sides b.mins 4) (sides b.maxs 4) K

-- ---- the edge rule

-- the two readings of a radius
pub data Edge : Type 0 where
  up_to under : Edge

-- a distance passes the radius
unfoldable pub passes : Edge → Float → Float → Bool
unfolding le lt
passes up_to radius x = le x radius
passes under radius x = lt x radius

-- a bound is above the radius ("up to"), or not below it ("under"); with NaN neither holds, so NaN rules nothing out and passes nothing
unfoldable pub beyond : Edge → Float → Float → Bool
unfolding le lt
beyond up_to radius x = lt radius x
beyond under radius x = le radius x
