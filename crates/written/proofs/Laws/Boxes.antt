-- Points in boxes, and the facts on rounded numbers that the walks rest on: lower ≤ distance ≤ upper, what is beyond a radius fails, what is below a bound that passes does. Assumes nothing.
use Rattle.std.specs.Prelude.{◌≡◌, Bool, true, false, cond, ◌≢◌, ℕ, ◌+◌, ◌<◌, length, get_or, set, T, Float}
use Rattle.std.proofs.Common.{◌∙◌, arith, length-set, get_or-set_same, get_or-set_other}
use Rattle.std.proofs.Math.Decide.{ℕ_discrete}
use Rattle.std.specs.Float.{nan}
use Rattle.std.specs.Float.Ieee.{le, lt, binary64}
use Rattle.rounding.proofs.Order.{known, le_trans, le_lt_trans, lt_le_trans, asym}
use Rattle.rounding.proofs.Exact.{plain_antisymm}
use Rattle.rounding.proofs.Boxes.{Finite, distance_plain, distance_known as known-of-rows, distance_fits, lower_le, le_upper}
use Rattle.written.specs.LentTree.{Tree, coord}
use Rattle.written.specs.Boxes.{Trees, point, distance, Boxes, lowered, raised, sides, lower, upper, Edge, up_to, under, passes, beyond}
use Rattle.written.proofs.Laws.Tests.{gave, T_true, denies}

-- the point p of the tree t is in the box whose numbers stand from i on
abbrev pub Within : ℕ → Tree → ℕ → Boxes → ℕ → Type 0
Within K t i b p = (d : ℕ) → d < K → T (le (get_or b.mins (i + d) nan) (coord t d p)) × T (le (coord t d p) (get_or b.maxs (i + d) nan))

pub record Sized (b : Boxes) : Type 0 where
  pub mins_size : length b.mins ≡ 8
  pub maxs_size : length b.maxs ≡ 8

module _ (b : Boxes) (i : ℕ) (v : Float) (s : Sized b) where
  pub sized_lowered : Sized (lowered b i v)
  sized_lowered = record { mins_size = s.mins_size; maxs_size = length-set b.maxs i _ ∙ s.maxs_size }

  pub sized_raised : Sized (raised b i v)
  sized_raised = record { mins_size = length-set b.mins i _ ∙ s.mins_size; maxs_size = s.maxs_size }

-- ---- a side lowered to a pivot that the point is not above, or raised to one that it is not below

le_smaller : (x v m : Float) (c : Bool) → T (le x v) → T (le x m) → T (le x (cond c v m))
le_smaller x v m true h k = h
le_smaller x v m false h k = k

le_larger : (x v m : Float) (c : Bool) → T (le v x) → T (le m x) → T (le (cond c v m) x)
le_larger x v m true h k = h
le_larger x v m false h k = k

module _ (K : ℕ) (t : Tree) (i a : ℕ) (b : Boxes) (v : Float) (p : ℕ) (w : Within K t i b p) where
  pub within_lowered : i + a < length b.maxs → T (le (coord t a p) v) → Within K t i (lowered b (i + a) v) p
  within_lowered h k d x = ((w d x).0, go (ℕ_discrete d a))
    where
      m : Float
      m = get_or b.maxs (i + a) nan

      go : Dec (d ≡ a) → T (le (coord t d p) (get_or (set b.maxs (i + a) (cond (lt v m) v m)) (i + d) nan))
      go (yes e) = rw (e, get_or-set_same b.maxs (i + a) (cond (lt v m) v m) nan h) (le_smaller (coord t a p) v m (lt v m) k (rw e at (w d x).1))
      go (no n) = rw (get_or-set_other b.maxs (i + a) (i + d) (cond (lt v m) v m) nan (λ q. n (omega arith))) (w d x).1

  pub within_raised : i + a < length b.mins → T (le v (coord t a p)) → Within K t i (raised b (i + a) v) p
  within_raised h k d x = (go (ℕ_discrete d a), (w d x).1)
    where
      m : Float
      m = get_or b.mins (i + a) nan

      go : Dec (d ≡ a) → T (le (get_or (set b.mins (i + a) (cond (lt m v) v m)) (i + d) nan) (coord t d p))
      go (yes e) = rw (e, get_or-set_same b.mins (i + a) (cond (lt m v) v m) nan h) (le_larger (coord t a p) v m (lt m v) k (rw e at (w d x).0))
      go (no n) = rw (get_or-set_other b.mins (i + a) (i + d) (cond (lt m v) v m) nan (λ q. n (omega arith))) (w d x).0

-- the numbers of the other side stay where they are
module _ (K : ℕ) (t : Tree) (j i : ℕ) (b : Boxes) (v : Float) (p : ℕ) (apart : (d : ℕ) → d < K → j + d ≢ i) (w : Within K t j b p) where
  pub apart_lowered : Within K t j (lowered b i v) p
  apart_lowered d x = ((w d x).0, rw (get_or-set_other b.maxs i (j + d) _ nan (apart d x)) (w d x).1)

  pub apart_raised : Within K t j (raised b i v) p
  apart_raised d x = (rw (get_or-set_other b.mins i (j + d) _ nan (apart d x)) (w d x).0, (w d x).1)

-- ---- bounds

module _ (j : Trees) (p q : ℕ) (x : Finite (point j.left p) j.axes) (y : Finite (point j.right q) j.axes) where
  -- a distance is a number
  pub distance_known : T (known (distance j p q))
  unfolding distance
  distance_known = known-of-rows binary64 (point j.left p) (point j.right q) j.axes x y

  module _ (b : Boxes) (l : Within j.axes j.left 0 b p) (r : Within j.axes j.right 4 b q) where
    pub lower_ok : T (le (lower j.axes b) (distance j p q))
    unfolding lower distance
    lower_ok = lower_le binary64 (sides b.mins 0) (sides b.maxs 0) (sides b.mins 4) (sides b.maxs 4) (point j.left p) (point j.right q) j.axes x y l r

    pub upper_ok : T (le (distance j p q) (upper j.axes b))
    unfolding upper distance
    upper_ok = le_upper binary64 (sides b.mins 0) (sides b.maxs 0) (sides b.mins 4) (sides b.maxs 4) (point j.left p) (point j.right q) j.axes x y l r

-- two distances of a left place that are not above each other are one number, bit for bit
pub distance_antisymm : (j : Trees) (p q r : ℕ) → Finite (point j.left p) j.axes → Finite (point j.right q) j.axes → Finite (point j.right r) j.axes
    → T (le (distance j p q) (distance j p r)) → T (le (distance j p r) (distance j p q)) → distance j p q ≡ distance j p r
unfolding distance
distance_antisymm j p q r x y z =
    plain_antisymm binary64 _ _ (distance_fits binary64 (point j.left p) (point j.right q) j.axes) (distance_fits binary64 (point j.left p) (point j.right r) j.axes)
    (distance_plain binary64 (point j.left p) (point j.right q) j.axes x y) (distance_plain binary64 (point j.left p) (point j.right r) j.axes x z)

-- ---- the edge rule

pub beyond_fails : (e : Edge) (r x y : Float) → T (le x y) → beyond e r x ≡ true → passes e r y ≡ false
unfolding beyond passes
beyond_fails up_to r x y h k = denies (le y r) (λ (g : T (le y r)). asym r y (lt_le_trans r x y (gave k) h) g)
beyond_fails under r x y h k = denies (lt y r) (λ (g : T (lt y r)). asym y r g (le_trans r x y (gave k) h))

pub below_passes : (e : Edge) (r x y : Float) → T (le x y) → passes e r y ≡ true → passes e r x ≡ true
unfolding passes
below_passes up_to r x y h k = T_true (le x r) (le_trans x y r h (gave k))
below_passes under r x y h k = T_true (lt x r) (le_lt_trans x y r h (gave k))
