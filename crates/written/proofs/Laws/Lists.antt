-- Rearrangements of lists. A rearrangement is the library's `List.Permᴰ`: swaps of neighbours lead from one list to the other. Assumes nothing.
use Rattle.written.proofs.Examples  -- no law is checked before the examples
use Rattle.std.specs.Prelude.{◌≡◌, refl, length, suc}
use Rattle.std.proofs.Common.{sym, ap, ◌∙◌, subst}
use mathlib.Core.List.{List, [], ◌∷◌, ◌++◌, append-nil, append_assoc, Permᴰ}

module _ {A : Type 0} where
  pub perm_of_eq : {l m : List A} → l ≡ m → Permᴰ l m
  perm_of_eq {l} e = subst (Permᴰ l) e (mathlib.Core.List.Permᴰ.refl l)

  pub perm_length : {l m : List A} → Permᴰ l m → length l ≡ length m
  perm_length mathlib.Core.List.Permᴰ.nil = refl
  perm_length (mathlib.Core.List.Permᴰ.cons e d) = ap suc (perm_length d)
  perm_length (mathlib.Core.List.Permᴰ.swap e₁ e₂) = refl
  perm_length (mathlib.Core.List.Permᴰ.trans d₁ d₂) = perm_length d₁ ∙ perm_length d₂

  pub perm_append : {l m s t : List A} → Permᴰ l m → Permᴰ s t → Permᴰ (l ++ s) (m ++ t)
  perm_append {m} {s} p q = mathlib.Core.List.Permᴰ.trans (mathlib.Core.List.Permᴰ.append_right s p) (mathlib.Core.List.Permᴰ.append_left m q)

  perm_swap : (l m : List A) → Permᴰ (l ++ m) (m ++ l)
  perm_swap [] m = perm_of_eq (sym (append-nil m))
  perm_swap (x ∷ l) m = mathlib.Core.List.Permᴰ.trans (mathlib.Core.List.Permᴰ.cons refl (perm_swap l m)) (mathlib.Core.List.Permᴰ.symm (mathlib.Core.List.Permᴰ.middle x m l))

  pub perm_four : (a b c d : List A) → Permᴰ (a ++ b ++ (c ++ d)) (a ++ c ++ (b ++ d))
  perm_four a b c d =
      let inner : Permᴰ (a ++ (b ++ c) ++ d) (a ++ (c ++ b) ++ d) = mathlib.Core.List.Permᴰ.append_right d (mathlib.Core.List.Permᴰ.append_left a (perm_swap b c)) in
      simp (append_assoc) (simp append_assoc at inner)
