-- Document 01: number 1 has side 0. Rule 1 speaks of K alone, so where it is broken it is told of the left tree. Assumes nothing.
use Rattle.std.specs.Prelude.{◌≡◌, refl, Bool, true, false, cond, ℕ}
use Rattle.std.proofs.lemmas.Bool.{false≢true}
use Rattle.std.proofs.Common.{arith}
use Rattle.written.specs.LentTree.{Tree}
use Rattle.written.specs.Boxes.{Trees}
use Rattle.written.specs.Check.{axes_ok, sizes_ok, lengths_ok, starts_ok, coords_ok, pivots_ok, order_ok, refusal}
use Rattle.written.specs.Calls.{TreeRefused, left_broken, right_broken}
use Rattle.written.proofs.Checked.{refusal_is_first, first_is_one}

kept : (a : Bool) (others : ℕ) → cond a others 1 ≡ 0 → a ≡ true
kept true others e = refl
kept false others e = absurd (omega arith)

-- what the rules after the first say is not 1
others : (a b₂ b₃ b₄ b₅ b₆ b₇ : Bool) → a ≡ true → ◌≡◌ {A = ℕ} (cond a (cond b₂ (cond b₃ (cond b₄ (cond b₅ (cond b₆ (cond b₇ 0 7) 6) 5) 4) 3) 2) 1) 1 → ⊥
others false b₂ b₃ b₄ b₅ b₆ b₇ a e = absurd (false≢true a)
others true false b₃ b₄ b₅ b₆ b₇ a e = omega arith
others true true false b₄ b₅ b₆ b₇ a e = omega arith
others true true true false b₅ b₆ b₇ a e = omega arith
others true true true true false b₆ b₇ a e = omega arith
others true true true true true false b₇ a e = omega arith
others true true true true true true false a e = omega arith
others true true true true true true true a e = omega arith

module _ (K : ℕ) (t : Tree) where
  axes_kept : refusal K t ≡ 0 → axes_ok K t ≡ true
  unfolding refusal
  axes_kept e = kept (axes_ok K t) _ e

  not_one : axes_ok K t ≡ true → refusal K t ≡ 1 → ⊥
  unfolding refusal
  not_one a e = others (axes_ok K t) (sizes_ok K t) (lengths_ok K t) (starts_ok K t) (coords_ok K t) (pivots_ok K t) (order_ok K t) a e

pub one_is_left : (j : Trees) {side : ℕ} → TreeRefused j 1 side → side ≡ 0
one_is_left j (left_broken f) = refl
one_is_left j (right_broken k f) =
    let left = first_is_one j.axes j.left (refusal_is_first j.axes j.left) k in
    let right = first_is_one j.axes j.right (refusal_is_first j.axes j.right) f in
    absurd (not_one j.axes j.right (axes_kept j.axes j.left left) right)
