-- What the proofs of this crate share. Assumes nothing.
use mathlib.Core.Path.{◌≡◌, refl, sym, ap, ◌∙◌}
use mathlib.Core.List.{List}
use mathlib.Core.Bool.{Bool, true, false, ◌&&◌}
use mathlib.Core.Logic.{inl, inr}
use Prim.Native.Nat.{ℕ, zero, suc, ◌+◌, ◌*◌, ◌≤◌, ◌<◌}
use native.Mathlib.Nat.{zero-add, mul-le-mul_right, suc-mul, eq-or-lt_of_le, le_of_suc-le-suc, not-suc-le-zero}
use native.Mathlib.Omega.{arith}
use lib.ListN.{length, get_or}
use lib.Ieee.{Float, nan, inf, fin, eq, binary64}
use Rattle.rounding.specs.Bounds.{reach1, bounded, every_axis}
use Rattle.rounding.specs.Distance.{summed}
use Rattle.written.specs.Check.{is_top}
use Rattle.written.specs.Boxes.{sides, upper}
use Rattle.metric.specs.Flat.{boxes_of}
use Rattle.metric.specs.Lent.{HoldsPlace}

-- ---- each axis of a place stands in its buffer
pub inside : {K : ℕ} {coords : List Float} {n p : ℕ} → HoldsPlace K coords n p → (d : ℕ) → d < K → d * n + p < length coords
inside {K} {coords} {n} {p} h d l =
    let row : suc d * n ≤ K * n = mul-le-mul_right n l in
    let next : suc d * n ≡ d * n + n = suc-mul d n in
    omega (arith, row, next, h.whole, h.inside)

-- ---- what the definitions read at an axis of the boxes, as the code reads it
pub at_axis : {A : Type 0} (g : Float → Float → Float → Float → A) (min max : List Float) (d : ℕ)
    → g (sides min 0 d) (sides max 0 d) (sides min 4 d) (sides max 4 d) ≡ g (get_or min d nan) (get_or max d nan) (get_or min (4 + d) nan) (get_or max (4 + d) nan)
at_axis g min max d = ap (λ (e : ℕ). g (get_or min e nan) (get_or max e nan) (get_or min (4 + d) nan) (get_or max (4 + d) nan)) (zero-add d)

-- ---- the upper bound's two cases
module _ (min max : List Float) where
  abbrev pub reach_at : ℕ → Float
  reach_at d = reach1 binary64 (sides min 0 d) (sides max 0 d) (sides min 4 d) (sides max 4 d)

  abbrev pub bounded_at : ℕ → Bool
  bounded_at d = bounded (sides min 0 d) (sides max 0 d) (sides min 4 d) (sides max 4 d)

  pub upper_closed : (K : ℕ) → every_axis bounded_at K ≡ true → upper K (boxes_of min max) ≡ summed binary64 reach_at K
  unfolding upper
  upper_closed K h = rw h refl

  pub upper_open : (K : ℕ) → every_axis bounded_at K ≡ false → upper K (boxes_of min max) ≡ inf false
  unfolding upper
  upper_open K h = rw h refl

and-false : (a b : Bool) → b ≡ false → (a && b) ≡ false
and-false true b h = h
and-false false b h = refl

-- one axis that fails
pub fails : (test : ℕ → Bool) (K d : ℕ) → d < K → test d ≡ false → every_axis test K ≡ false
fails test zero d l h = absurd (not-suc-le-zero l)
fails test (suc k) d l h = elim (eq-or-lt_of_le (le_of_suc-le-suc l)) [
  | inl e ↦ and-false (every_axis test k) (test k) (ap test (sym e) ∙ h)
  | inr g ↦ rw (fails test k d g h)
]

-- one axis more that passes
pub holds_next : (test : ℕ → Bool) (d : ℕ) → every_axis test d ≡ true → test d ≡ true → every_axis test (suc d) ≡ true
holds_next test d h k = rw (h, k)

-- ---- comparing with +inf
pub top_is : (x : Float) → eq x (inf false) ≡ is_top x
unfolding eq
top_is nan = refl
top_is (inf true) = refl
top_is (inf false) = refl
top_is (fin s m e) = refl
