-- How many of the first places pass a test. Assumes nothing.
use mathlib.Core.Path.{◌≡◌, refl, sym, ap, ap₂, ◌∙◌}
use mathlib.Core.List.{List, ◌++◌}
use mathlib.Core.Bool.{Bool, true, false, cond}
use Prim.Native.Nat.{ℕ, zero, suc, ◌+◌, ◌≤◌, ◌<◌}
use native.Mathlib.Omega.{arith}
use native.Mathlib.Numerals.{add-one}
use lib.ListN.{length, length-append}
use Rattle.written.specs.Places.{over}
use Rattle.written.proofs.Laws.Places.{over_split}
use Rattle.leaf.specs.Sums.{hits}

pub one_at_most : (b : Bool) → cond b 1 0 ≤ 1
one_at_most true = omega arith
one_at_most false = omega arith

module _ (test : ℕ → Bool) where
  pub hits_few : (n : ℕ) → hits test n ≤ n
  unfolding hits
  hits_few zero = omega arith
  hits_few (suc n) = omega (arith, hits_few n, one_at_most (test n))

  -- one place more, as a loop adds it
  pub hits_next : {n r : ℕ} (j : ℕ) → n ≡ hits test j → r ≡ cond (test j) 1 0 → n + r ≡ hits test (j + 1)
  unfolding hits
  hits_next {n} {r} j before here = rw (add-one j) (ap₂ (λ (x y : ℕ). x + y) before here)

  -- as many as a list has that holds one element for each place that passes
  pub hits_over : {X : Type 0} (g : ℕ → List X) (a n : ℕ) → ((j : ℕ) → j < n → length (g (a + j)) ≡ cond (test j) 1 0) → hits test n ≡ length (over g a n)
  unfolding hits
  hits_over g a zero e = refl
  hits_over g a (suc n) e =
      let last : length (g (a + n)) ≡ cond (test n) 1 0 = e n (omega arith) in
      let before : hits test n ≡ length (over g a n) = hits_over g a n (λ j l. e j (omega arith)) in
      let all : over g a (suc n) ≡ over g a n ++ over g (a + n) 1 = ap (over g a) (sym (add-one n)) ∙ over_split g a n 1 in
      rw all (simp length-append (omega arith))

-- ---- a list counted part by part: what is left of it
pub counted_next : {X : Type 0} {r m : ℕ} (n : ℕ) (all first rest : List X) → n + length all ≡ m → all ≡ first ++ rest → r ≡ length first → n + r + length rest ≡ m
counted_next n all first rest h e q = omega (arith, h, q, ap length e ∙ length-append first rest)
