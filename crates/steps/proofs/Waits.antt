-- What waits, as a list with the last entry first, and what is taken from it. Assumes nothing.
use mathlib.Core.Path.{◌≡◌, refl, sym, ap, ap₂, ◌∙◌}
use mathlib.Core.List.{List, [], ◌∷◌}
use Prim.Native.Nat.{ℕ, zero, suc, ◌+◌, ◌-◌, ◌≤◌, ◌<◌}
use native.Mathlib.Numerals.{add-one}
use native.Mathlib.Omega.{arith}
use borrow.Author.Tests.{ne_eqb}
use lib.ListN.{length, get_or, set}
use lib.Seq.{get_or-set_same, get_or-set_other}
use Rattle.steps.specs.declared.waiting.Waiting.{Waiting}
use Rattle.std.specs.Prelude.{Option}
use Rattle.std.specs.Prelude.{Some, None}
use Rattle.steps.specs.Popping.{popped_of, blank}

-- the first n entries of the array, the last of them first
abbrev pub view : ℕ → List Waiting → List Waiting
view zero s = []
view (suc n) s = get_or s n blank ∷ view n s

view_set : (n i : ℕ) (s : List Waiting) (w : Waiting) → n ≤ i → view n (set s i w) ≡ view n s
view_set zero i s w h = refl
view_set (suc n) i s w h = ap₂ ◌∷◌ (get_or-set_other s i n w blank (λ e. omega arith)) (view_set n i s w (omega arith))

pub view_push : (n : ℕ) (s : List Waiting) (w : Waiting) → n < length s → view (n + 1) (set s n w) ≡ w ∷ view n s
view_push n s w h = rw add-one (ap₂ ◌∷◌ (get_or-set_same s n w blank h) (view_set n n s w (omega arith)))

pub view_length : (n : ℕ) (s : List Waiting) → length (view n s) ≡ n
view_length zero s = refl
view_length (suc n) s = ap suc (view_length n s)

-- ---- what is taken

abbrev pub taken : List Waiting → Option Waiting
taken [] = None
taken (w ∷ ws) = Some w

-- the code's pop takes the first of the list
pub pop_takes : (n : ℕ) (s : List Waiting) (r : Option Waiting) → r ≡ popped_of n (get_or s (n - 1) blank) → taken (view n s) ≡ r
pop_takes zero s r h = sym h
pop_takes (suc n) s r h =
    let k : suc n - 1 ≡ n = omega arith in
    ap (λ (i : ℕ). Some (get_or s i blank)) (sym k) ∙ sym (h ∙ simp (ne_eqb (suc n) 0 (λ z. omega arith)))

pub none_taken : (ws : List Waiting) → taken ws ≡ None → ws ≡ []
none_taken [] e = refl
none_taken (w ∷ ws) e = let z : ◌≡◌ {A = ℕ} 0 1 = cc in absurd (omega arith)

pub some_taken : (n : ℕ) (s : List Waiting) {w : Waiting} → taken (view n s) ≡ Some w → (0 < n) × (view n s ≡ w ∷ view (n - 1) s)
some_taken zero s e = let z : ◌≡◌ {A = ℕ} 0 1 = cc in absurd (omega arith)
some_taken (suc n) s {w} e =
    let k : suc n - 1 ≡ n = omega arith in
    let f : get_or s n blank ≡ w = cc in
    (omega arith, rw (k, f))
