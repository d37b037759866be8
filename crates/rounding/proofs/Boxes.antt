-- The distance of two points and two boxes' bounds on it: no distance is NaN, it is the same both ways, and it lies between the bounds of any two boxes that hold the points.
-- The points are finite, and the sides of the boxes may be infinite. Assumes nothing.
use Rattle.std.specs.Prelude.{◌≡◌, ℕ, zero, suc, ◌<◌, Bool, true, false, not, cond}
use Rattle.std.proofs.Common.{sym, subst, eq-or-lt_of_le, le_of_suc-le-suc, not-suc-le-zero}
use Rattle.std.proofs.Math.Logic.{inl, inr}
use Rattle.std.proofs.Math.Dec.{T}
use Rattle.std.specs.Float.Ieee.{Float, le, lt, fits}
use Rattle.std.specs.Float.{inf, Format}
use Rattle.std.specs.Float.Ieee.Fits.{and_l, and_r, add-fits}
use Rattle.std.specs.Float.Ieee.Scale.{finite}
use Rattle.rounding.specs.Distance.{Row, zero₊, dist1, summed, distance}
use Rattle.rounding.specs.Bounds.{gap1, reach1, bounded, every_axis, lower, upper}
use Rattle.rounding.proofs.Fraction.{four}
use Rattle.rounding.proofs.Order.{known, finite_known, le_total, lt→le, le_refl, le_trans, le_top, not_lt→le, finite_between}
use Rattle.rounding.proofs.Signs.{plain, plain_known, zero-le}
use Rattle.rounding.proofs.Squares.{dist1_plain, dist1_mono, dist1_sym}
use Rattle.rounding.proofs.Sums.{summed_plain, summed_mono, summed_same}

-- ---- every number of the point is finite; the point is in the box
abbrev pub Finite : Row → ℕ → Type 0
Finite x K = (d : ℕ) → d < K → T (finite (x d))

abbrev pub Within : (min x max : Row) → ℕ → Type 0
Within min x max K = (d : ℕ) → d < K → T (le (min d) (x d)) × T (le (x d) (max d))

-- ---- a distance
module _ (f : Format) (x y : Row) (K : ℕ) where
  pub distance_plain : Finite x K → Finite y K → T (plain (distance f x y K))
  unfolding distance
  distance_plain p q = summed_plain f (λ (d : ℕ). dist1 f (x d) (y d)) K (λ (d : ℕ) (h : d < K). dist1_plain f (x d) (y d) (p d h) (q d h))

  -- no distance is NaN
  pub distance_known : Finite x K → Finite y K → T (known (distance f x y K))
  distance_known p q = plain_known (distance f x y K) (distance_plain p q)

  -- as data, whatever the coordinates are
  pub distance_sym : distance f x y K ≡ distance f y x K
  unfolding distance
  distance_sym = summed_same f (λ (d : ℕ). dist1 f (x d) (y d)) (λ (d : ℕ). dist1 f (y d) (x d)) K (λ (d : ℕ) (h : d < K). dist1_sym f (x d) (y d))

zero_fits : (f : Format) → T (fits f zero₊)
unfolding fits
zero_fits f = tt

-- a distance is a value of its format
pub distance_fits : (f : Format) (x y : Row) (K : ℕ) → T (fits f (distance f x y K))
unfolding distance summed
distance_fits f x y zero = zero_fits f
distance_fits f x y (suc k) = add-fits f (summed f (λ (d : ℕ). dist1 f (x d) (y d)) k) (dist1 f (x k) (y k))

-- ---- one axis of the lower bound
-- x ≤ a < b ≤ y
apart : (f : Format) (x a b y : Float) → T (finite x) → T (finite y) → T (le x a) → T (lt a b) → T (le b y) → T (plain (dist1 f a b)) × T (le (dist1 f a b) (dist1 f x y))
apart f x a b y p q h k l =
    let m = lt→le a b k in
    let u = finite_between x a y p q h (le_trans a b y m l) in
    let v = finite_between x b y p q (le_trans x a b h m) l in
    (dist1_plain f a b u v, dist1_mono f x a b y p u v q h m l)

module _ (f : Format) (min_l max_l min_r max_r x y : Float) (p : T (finite x)) (q : T (finite y)) (a : T (le min_l x)) (b : T (le x max_l)) (c : T (le min_r y)) (d : T (le y max_r)) where
  gap1_le : T (plain (gap1 f min_l max_l min_r max_r)) × T (le (gap1 f min_l max_l min_r max_r) (dist1 f x y))
  unfolding gap1
  gap1_le = first (lt max_l min_r) (λ (h : T (lt max_l min_r)). h)
    where
      Goal : Float → Type 0
      Goal z = T (plain z) × T (le z (dist1 f x y))

      second : (t : Bool) → (T t → T (lt max_r min_l)) → Goal (cond t (dist1 f max_r min_l) zero₊)
      second false h = (tt, zero-le (dist1 f x y) (dist1_plain f x y p q))
      second true h = rw (dist1_sym f x y) (apart f y max_r min_l x q p d (h tt) a)

      first : (t : Bool) → (T t → T (lt max_l min_r)) → Goal (cond t (dist1 f max_l min_r) (cond (lt max_r min_l) (dist1 f max_r min_l) zero₊))
      first false h = second (lt max_r min_l) (λ (h : T (lt max_r min_l)). h)
      first true h = apart f x max_l min_r y p q b (h tt) c

-- ---- one axis of the upper bound
-- the larger of two values
larger : (a b : Float) → T (plain a) → T (plain b) → let m = cond (lt b a) a b in T (plain m) × T (le a m) × T (le b m)
larger a b p q = go (lt b a) (λ (h : T (lt b a)). h) (not_lt→le b a (plain_known b q) (plain_known a p))
  where
    go : (t : Bool) → (T t → T (lt b a)) → (T (not t) → T (le a b)) → let m = cond t a b in T (plain m) × T (le a m) × T (le b m)
    go true h k = (p, le_refl a (plain_known a p), lt→le b a (h tt))
    go false h k = (q, k tt, le_refl b (plain_known b q))

module _ (f : Format) (min_l max_l min_r max_r x y : Float) (p : T (finite x)) (q : T (finite y)) (a : T (le min_l x)) (b : T (le x max_l)) (c : T (le min_r y)) (d : T (le y max_r)) where
  le_reach1 : T (bounded min_l max_l min_r max_r) → T (plain (reach1 f min_l max_l min_r max_r)) × T (le (dist1 f x y) (reach1 f min_l max_l min_r max_r))
  unfolding reach1
  le_reach1 sides =
      let s = four (finite min_l) (finite max_l) (finite min_r) (finite max_r) sides in
      let u = dist1 f min_l max_r in
      let v = dist1 f max_l min_r in
      let l = larger u v (dist1_plain f min_l max_r s.0 s.3) (dist1_plain f max_l min_r s.1 s.2) in (
        l.0,
        elim (le_total x y (finite_known x p) (finite_known y q)) [
          | inl h ↦ le_trans (dist1 f x y) u (cond (lt v u) u v) (dist1_mono f min_l x y max_r s.0 p q s.3 a h d) l.1
          | inr h ↦ le_trans (dist1 f x y) v (cond (lt v u) u v) (rw (dist1_sym f x y, dist1_sym f max_l min_r) (dist1_mono f min_r y x max_l s.2 q p s.1 c h b)) l.2
        ],
      )

-- ---- all axes
every_axis_at : (t : ℕ → Bool) (K : ℕ) → T (every_axis t K) → (d : ℕ) → d < K → T (t d)
every_axis_at t zero h d l = absurd (not-suc-le-zero l)
every_axis_at t (suc k) h d l = elim (eq-or-lt_of_le (le_of_suc-le-suc l)) [
  | inl e ↦ subst (λ (z : ℕ). T (t z)) (sym e) (and_r (every_axis t k) (t k) h)
  | inr g ↦ every_axis_at t k (and_l (every_axis t k) (t k) h) d g
]

module _ (f : Format) (min_l max_l min_r max_r x y : Row) (K : ℕ) (p : Finite x K) (q : Finite y K) (l : Within min_l x max_l K) (r : Within min_r y max_r K) where
  abbrev gap : ℕ → Float
  gap d = gap1 f (min_l d) (max_l d) (min_r d) (max_r d)

  abbrev reach : ℕ → Float
  reach d = reach1 f (min_l d) (max_l d) (min_r d) (max_r d)

  abbrev sides : ℕ → Bool
  sides d = bounded (min_l d) (max_l d) (min_r d) (max_r d)

  abbrev part : ℕ → Float
  part d = dist1 f (x d) (y d)

  part_plain : (d : ℕ) → d < K → T (plain (part d))
  part_plain d h = dist1_plain f (x d) (y d) (p d h) (q d h)

  -- the lower bound is never above the distance
  pub lower_le : T (le (lower f min_l max_l min_r max_r K) (distance f x y K))
  unfolding lower distance
  lower_le = summed_mono f gap part K (λ (d : ℕ) (h : d < K). (one d h).0) part_plain (λ (d : ℕ) (h : d < K). (one d h).1)
    where
      one : (d : ℕ) → d < K → T (plain (gap d)) × T (le (gap d) (part d))
      one d h = gap1_le f (min_l d) (max_l d) (min_r d) (max_r d) (x d) (y d) (p d h) (q d h) (l d h).0 (l d h).1 (r d h).0 (r d h).1

  -- nor the distance above the upper bound
  pub le_upper : T (le (distance f x y K) (upper f min_l max_l min_r max_r K))
  unfolding upper distance
  le_upper = go (every_axis sides K) (every_axis_at sides K)
    where
      one : (d : ℕ) → d < K → T (sides d) → T (plain (reach d)) × T (le (part d) (reach d))
      one d h = le_reach1 f (min_l d) (max_l d) (min_r d) (max_r d) (x d) (y d) (p d h) (q d h) (l d h).0 (l d h).1 (r d h).0 (r d h).1

      go : (e : Bool) → (T e → (d : ℕ) → d < K → T (sides d)) → T (le (summed f part K) (cond e (summed f reach K) (inf false)))
      go false e = le_top (summed f part K) (plain_known (summed f part K) (summed_plain f part K part_plain))
      go true e = summed_mono f part reach K part_plain (λ (d : ℕ) (h : d < K). (one d h (e tt d h)).0) (λ (d : ℕ) (h : d < K). (one d h (e tt d h)).1)
