-- A bound is not below the largest of some distances, 0 where there are none, just if it is not below 0 and no distance is above it, NaN included. Assumes nothing.
use mathlib.Core.Path.{◌≡◌, refl, sym, ap, ◌∙◌}
use mathlib.Core.Logic.{inl, inr}
use mathlib.Core.Bool.{Bool, true, false, not, ◌&&◌, ◌||◌, cond, and-true, and-false, and_assoc}
use mathlib.Core.List.{List, [], ◌∷◌}
use lib.Dec.{T}
use lib.Ieee.{Float, nan, inf, fin, lt, le, is_nan}
use Rattle.std.specs.List.{list_any}
use Rattle.rounding.specs.Distance.{zero₊}
use Rattle.rounding.proofs.Order.{known, nan_right, lt→le, le_trans, le_lt_trans, asym, split}
use Rattle.written.specs.Boxes.{under, beyond}
use Rattle.written.proofs.Laws.Tests.{gave, T_true, denies, not_both}
use Rattle.held.specs.Largest.{largest_from, largest_of}

-- no distance is above the bound
abbrev pub none_above : Float → List Float → Bool
none_above bound [] = true
none_above bound (d ∷ ds) = not (lt bound d) && none_above bound ds

-- ---- the larger of m and d is d, or still m

above_known : (m d : Float) → lt m d ≡ true → T (known d)
unfolding is_nan
above_known m nan e = absurd (not_both e (nan_right m).0)
above_known m (inf s) e = tt
above_known m (fin s n k) e = tt

new_among_numbers : (m d x : Float) → lt m d ≡ true → T (known x) → le d x ≡ (le m x && not (lt x d))
new_among_numbers m d x e k = elim (split x d k (above_known m d e)) [
  | inl h ↦ rw (denies (le d x) (asym x d h), T_true (lt x d) h) (sym (and-false (le m x)))
  | inr h ↦ rw (T_true (le d x) h, T_true (le m x) (le_trans m d x (lt→le m d (gave e)) h), denies (lt x d) (λ (g : T (lt x d)). asym x d g h))
]

new_largest : (m d x : Float) → lt m d ≡ true → le d x ≡ (le m x && not (lt x d))
unfolding is_nan
new_largest m d nan e = rw ((nan_right d).2, (nan_right m).2)
new_largest m d (inf s) e = new_among_numbers m d (inf s) e tt
new_largest m d (fin s n k) e = new_among_numbers m d (fin s n k) e tt

old_largest : (m d x : Float) → lt m d ≡ false → le m x ≡ (le m x && not (lt x d))
old_largest m d x e = go (le m x) refl
  where
    go : (t : Bool) → le m x ≡ t → t ≡ (t && not (lt x d))
    go false h = refl
    go true h = rw (denies (lt x d) (λ (g : T (lt x d)). not_both (T_true (lt m d) (le_lt_trans m x d (gave h) g)) e))

larger_is : (m d x : Float) → le (cond (lt m d) d m) x ≡ (le m x && not (lt x d))
larger_is m d x = go (lt m d) refl
  where
    go : (t : Bool) → lt m d ≡ t → le (cond t d m) x ≡ (le m x && not (lt x d))
    go true e = new_largest m d x e
    go false e = old_largest m d x e

-- ---- the largest of all

from_is : (m bound : Float) (ds : List Float) → le (largest_from m ds) bound ≡ (le m bound && none_above bound ds)
from_is m bound [] = sym (and-true (le m bound))
from_is m bound (d ∷ ds) =
    from_is (cond (lt m d) d m) bound ds
    ∙ ap (λ (t : Bool). t && none_above bound ds) (larger_is m d bound)
    ∙ and_assoc (le m bound) (not (lt bound d)) (none_above bound ds)

pub below_is : (bound : Float) (ds : List Float) → none_above bound ds ≡ false → beyond under (largest_of ds) bound ≡ false
unfolding beyond
below_is bound ds e = from_is zero₊ bound ds ∙ (rw e (and-false (le zero₊ bound)))

pub not_below_is : (bound : Float) (ds : List Float) → none_above bound ds ≡ true → beyond under (largest_of ds) bound ≡ le zero₊ bound
unfolding beyond
not_below_is bound ds e = from_is zero₊ bound ds ∙ (rw e (and-true (le zero₊ bound)))

-- ---- as the code asks it

pub none_is : (bound : Float) (ds : List Float) → none_above bound ds ≡ not (list_any (lt bound) ds)
none_is bound [] = refl
none_is bound (d ∷ ds) = go (lt bound d) (none_is bound ds)
  where
    go : (t : Bool) → none_above bound ds ≡ not (list_any (lt bound) ds) → (not t && none_above bound ds) ≡ not (t || list_any (lt bound) ds)
    go true e = refl
    go false e = e
