-- Six numbers stored in turn into an array of six are what it holds. Assumes nothing.
use mathlib.Core.Path.{◌≡◌, refl}
use mathlib.Core.List.{List, [], ◌∷◌}
use Prim.Native.Nat.{ℕ}
use native.Mathlib.Omega.{arith}
use lib.ListN.{length, set}

pub six_set : (l : List ℕ) (a b c d e f : ℕ) → length l ≡ 6 → set (set (set (set (set (set l 0 a) 1 b) 2 c) 3 d) 4 e) 5 f ≡ a ∷ b ∷ c ∷ d ∷ e ∷ f ∷ []
six_set [] a b c d e f h = absurd (omega arith)
six_set (u ∷ []) a b c d e f h = absurd (omega arith)
six_set (u ∷ v ∷ []) a b c d e f h = absurd (omega arith)
six_set (u ∷ v ∷ w ∷ []) a b c d e f h = absurd (omega arith)
six_set (u ∷ v ∷ w ∷ x ∷ []) a b c d e f h = absurd (omega arith)
six_set (u ∷ v ∷ w ∷ x ∷ y ∷ []) a b c d e f h = absurd (omega arith)
six_set (u ∷ v ∷ w ∷ x ∷ y ∷ z ∷ []) a b c d e f h = refl
six_set (u ∷ v ∷ w ∷ x ∷ y ∷ z ∷ t ∷ l) a b c d e f h = absurd (omega arith)
