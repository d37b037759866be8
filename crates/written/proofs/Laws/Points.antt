-- Whether both trees hold points. Assumes nothing.
use Rattle.std.specs.Prelude.{◌≡◌, refl, true, false, ℕ, zero, suc, ◌*◌, ◌<◌, eqb}
use Rattle.std.proofs.Common.{inl, inr, zero-mul, mul-zero, arith}
use Rattle.std.proofs.Math.Dec.{eqb-suc-zero}
use Rattle.written.specs.LentTree.{places}
use Rattle.written.specs.Boxes.{Trees}
use Rattle.written.specs.Nearest.{no_points}
use Rattle.written.proofs.Laws.Tests.{either, neither, equal, not_zero}

some_number : (n p : ℕ) → p < n → eqb n 0 ≡ false
some_number zero p h = absurd (omega arith)
some_number (suc n) p h = eqb-suc-zero n

pub has_points : (j : Trees) (p q : ℕ) → p < places j.left → q < places j.right → no_points j ≡ false
has_points j p q h k = rw (some_number (places j.left) p h, some_number (places j.right) q k) refl

pub both_hold : (j : Trees) → no_points j ≡ false → (0 < places j.left) × (0 < places j.right)
both_hold j e =
    let n = neither (eqb (places j.left) 0) (eqb (places j.right) 0) e in
    (not_zero (places j.left) n.0, not_zero (places j.right) n.1)

pub no_product : (j : Trees) → no_points j ≡ true → places j.left * places j.right ≡ 0
no_product j e =
    elim (either (eqb (places j.left) 0) (eqb (places j.right) 0) e) [
      | inl u ↦ rw ((equal (places j.left) 0).0 u) (zero-mul (places j.right))
      | inr u ↦ rw ((equal (places j.right) 0).0 u) (mul-zero (places j.left))
    ]
