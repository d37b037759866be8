-- One of the first n is true: what one that is makes known, and what none being so does. Assumes nothing.
use mathlib.Core.Path.{◌≡◌, refl, sym, ap, ◌∙◌}
use mathlib.Core.Logic.{inl, inr}
use mathlib.Core.Bool.{Bool, true, false, ◌||◌}
use Prim.Native.Nat.{ℕ, zero, suc, ◌<◌}
use native.Mathlib.Nat.{eq-or-lt_of_le, le_of_suc-le-suc, not-suc-le-zero}
use Rattle.written.proofs.Laws.Tests.{not_both}
use Rattle.held.specs.Apart.{one_of}

or_true : (a b : Bool) → b ≡ true → (a || b) ≡ true
or_true true b h = refl
or_true false b h = h

neither : (a b : Bool) → (a || b) ≡ false → (a ≡ false) × (b ≡ false)
neither true b h = absurd (not_both refl h)
neither false b h = (refl, h)

pub one_is : (t : ℕ → Bool) (n i : ℕ) → i < n → t i ≡ true → one_of t n ≡ true
one_is t zero i l h = absurd (not-suc-le-zero l)
one_is t (suc n) i l h = elim (eq-or-lt_of_le (le_of_suc-le-suc l)) [
  | inl e ↦ or_true (one_of t n) (t n) (ap t (sym e) ∙ h)
  | inr g ↦ rw (one_is t n i g h)
]

pub none_is : (t : ℕ → Bool) (n : ℕ) → one_of t n ≡ false → (i : ℕ) → i < n → t i ≡ false
none_is t zero h i l = absurd (not-suc-le-zero l)
none_is t (suc n) h i l = elim (eq-or-lt_of_le (le_of_suc-le-suc l)) [
  | inl e ↦ ap t e ∙ (neither (one_of t n) (t n) h).1
  | inr g ↦ none_is t n (neither (one_of t n) (t n) h).0 i g
]
