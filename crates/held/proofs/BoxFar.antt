-- No right place under a node pair is nearer to a left place under it than the right box is: on each axis the box's nearest number lies between the two coordinates. Assumes nothing.
use mathlib.Core.Bool.{Bool, true, false, not, cond}
use mathlib.Core.Logic.{inl, inr}
use Prim.Native.Nat.{ℕ, ◌<◌}
use lib.Dec.{T}
use lib.Ieee.{Float, Format, binary64, le, lt}
use lib.Ieee.Scale.{finite}
use Rattle.rounding.specs.Distance.{Row, dist1, distance as distance_of_rows}
use Rattle.rounding.proofs.Order.{known, finite_known, le_known_l, le_known_r, le_refl, le_total, le_trans, not_lt→le, finite_between}
use Rattle.rounding.proofs.Signs.{plain}
use Rattle.rounding.proofs.Squares.{dist1_plain, dist1_mono, dist1_sym}
use Rattle.rounding.proofs.Sums.{summed_mono}
use Rattle.rounding.proofs.Boxes.{Finite, Within}
use Rattle.written.specs.Boxes.{Trees, distance, point, sides}
use Rattle.written.specs.NodePairs.{NodePair, left_side, right_side}
use Rattle.written.specs.Answers.{Accepts}
use Rattle.written.proofs.Laws.Accepted.{both_accepted}
use Rattle.written.proofs.Laws.RadiusWalk.{Good}
use Rattle.written.proofs.Laws.Pairs.{finite_at, place_of}
use Rattle.held.specs.Apart.{clamped, apart, BoxNoFarther}

-- ---- one axis

-- z is no farther from x than y is, and the square of its difference is no NaN
abbrev NoFarther : (f : Format) (x y z : Float) → Type 0
NoFarther f x y z = T (plain (dist1 f x z)) × T (le (dist1 f x z) (dist1 f x y))

module _ (f : Format) (x y : Float) (p : T (finite x)) (q : T (finite y)) where
  x≤x : T (le x x)
  x≤x = le_refl x (finite_known x p)

  -- x ≤ z ≤ y
  going_up : (z : Float) → T (le x z) → T (le z y) → NoFarther f x y z
  going_up z h k =
      let r = finite_between x z y p q h k in
      (dist1_plain f x z p r, dist1_mono f x x z y p p r q x≤x h k)

  -- y ≤ z ≤ x
  going_down : (z : Float) → T (le y z) → T (le z x) → NoFarther f x y z
  going_down z h k =
      let r = finite_between y z x q p h k in
      (dist1_plain f x z p r, rw (dist1_sym f x z, dist1_sym f x y) (dist1_mono f y z x x q r p p h k x≤x))

  staying : NoFarther f x y x
  staying = elim (le_total x y (finite_known x p) (finite_known y q)) [ inl h ↦ going_up x x≤x h | inr h ↦ going_down x h x≤x ]

  clamped_no_farther : (lo hi : Float) → T (le lo y) → T (le y hi) → NoFarther f x y (clamped lo hi x)
  clamped_no_farther lo hi a b = first (lt lo x) (not_lt→le lo x lo_known (finite_known x p))
    where
      lo_known : T (known lo)
      lo_known = le_known_l lo y a

      hi_known : T (known hi)
      hi_known = le_known_r y hi b

      -- x itself, or hi where it is below x
      from_x : (t : Bool) → (T (not t) → T (le hi x)) → NoFarther f x y (cond t x hi)
      from_x true h = staying
      from_x false h = going_down hi b (h tt)

      -- lo, or hi where lo is not below it: then both are y
      from_lo : T (le x lo) → (t : Bool) → (T (not t) → T (le hi lo)) → NoFarther f x y (cond t lo hi)
      from_lo k true h = going_up lo k a
      from_lo k false h = going_up hi (le_trans x lo hi k (le_trans lo y hi a b)) (le_trans hi lo y (h tt) a)

      first : (t : Bool) → (T (not t) → T (le x lo)) → let v = cond t x lo in NoFarther f x y (cond (lt v hi) v hi)
      first true h = from_x (lt x hi) (not_lt→le x hi (finite_known x p) hi_known)
      first false h = from_lo (h tt) (lt lo hi) (not_lt→le lo hi lo_known hi_known)

-- ---- all axes

clamped_rows : (f : Format) (min max x y : Row) (K : ℕ) → Finite x K → Finite y K → Within min y max K → T (le (distance_of_rows f x (λ d. clamped (min d) (max d) (x d)) K) (distance_of_rows f x y K))
unfolding distance_of_rows
clamped_rows f min max x y K p q w =
    summed_mono f (λ d. dist1 f (x d) (clamped (min d) (max d) (x d))) (λ d. dist1 f (x d) (y d)) K (λ d h. (one d h).0) (λ d h. dist1_plain f (x d) (y d) (p d h) (q d h)) (λ d h. (one d h).1)
  where
    one : (d : ℕ) → d < K → NoFarther f (x d) (y d) (clamped (min d) (max d) (x d))
    one d h = clamped_no_farther f (x d) (y d) (p d h) (q d h) (min d) (max d) (w d h).0 (w d h).1

pub box_no_farther : (j : Trees) → Accepts j → (d : ℕ) (s : NodePair) → Good j d s → BoxNoFarther j s
unfolding apart distance
box_no_farther j accepts d s g p q a b =
    let ok = both_accepted j accepts in
    clamped_rows binary64 (sides s.boxes.mins 4) (sides s.boxes.maxs 4) (point j.left p) (point j.right q) j.axes
    (finite_at j ok left_side p (place_of j ok d s g left_side p a)) (finite_at j ok right_side q (place_of j ok d s g right_side q b)) (g.boxed right_side q b)
