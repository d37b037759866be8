-- How far a left place lies from the right box: no right place under the node pair is nearer. Assumes nothing.
use Rattle.std.specs.Prelude.{List, Bool, false, ◌||◌, ℕ, zero, suc, ◌+◌, ◌*◌, ◌≤◌, ◌≡◌, length, get_or, T, Float}
use Rattle.std.specs.Float.{binary64, nan}
use Rattle.std.specs.Float.Ieee.{le, lt}
use Rattle.rounding.specs.Distance.{Row, distance as distance_of_rows}
use Rattle.written.specs.Places.{In}
use Rattle.written.specs.Boxes.{Trees, Boxes, point, distance, lowered_to, raised_to, sides}
use Rattle.written.specs.NodePairs.{NodePair, left_part, right_part}
use Rattle.metric.specs.Lent.{point_at}

-- of the numbers from lo up to hi, the nearest to x
abbrev pub clamped : (lo hi x : Float) → Float
clamped lo hi x = lowered_to (raised_to x lo) hi

-- the point of the right box that is nearest to x
abbrev pub in_right_box : Boxes → Row → Row
in_right_box b x d = clamped (sides b.mins 4 d) (sides b.maxs 4 d) (x d)

-- the rounded squared distance to it
unfoldable pub apart : ℕ → Boxes → Row → Float
unfolding distance_of_rows
apart K b x = distance_of_rows binary64 x (in_right_box b x) K

-- no right place under the node pair is nearer to a left one than the right box is
abbrev pub BoxNoFarther : Trees → NodePair → Type 0
BoxNoFarther j s = (p q : ℕ) → In p (left_part j s) → In q (right_part j s) → T (le (apart j.axes s.boxes (point j.left p)) (distance j p q))

-- ---- a stretch of left places from ls on, with the distances that they hold

-- K columns of n numbers hold m places from ls on
pub record Places (K : ℕ) (coords : List Float) (n ls m : ℕ) : Type 0 where
  pub few_axes : K ≤ 4
  pub whole : length coords ≡ K * n
  pub inside : ls + m ≤ n

-- the right box is nearer to the i-th than what it holds
abbrev pub gains_at : (K : ℕ) → List Float → (n ls : ℕ) → Boxes → List Float → ℕ → Bool
gains_at K coords n ls b held i = lt (apart K b (point_at coords n (ls + i))) (get_or held i nan)

-- one of the first n
abbrev pub one_of : (ℕ → Bool) → ℕ → Bool
one_of t zero = false
one_of t (suc n) = one_of t n || t n
