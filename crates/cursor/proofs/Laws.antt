-- Laws on levels, and on sides by their number. Assumes nothing.
use mathlib.Core.Path.{◌≡◌, refl}
use Prim.Native.Nat.{ℕ, zero, suc, ◌^◌, ◌≤◌, ◌<◌}
use native.Mathlib.Decide.{dec_lt}
use native.Mathlib.Omega.{arith}
use lib.Pow.{pow_mono}
use Rattle.written.specs.LentTree.{levels}
use Rattle.written.specs.NodePairs.{left_side, right_side}
use Rattle.written.proofs.Laws.LentTree.{levels_enough, levels_least}
use Rattle.cursor.specs.Held.{side_at}

-- an exponent whose power is still below m is below the levels over m
pub below_levels : (m r : ℕ) → 2 ^ r < m → r < levels m
below_levels m r h = go (dec_lt r (levels m))
  where
    go : Dec (r < levels m) → r < levels m
    go (yes l) = l
    go (no l) = absurd (omega (arith, levels_enough m, pow_mono {i = levels m} {j = r} (omega arith)))

-- the first exponent whose power is not below m
pub levels_is : (m r : ℕ) → m ≤ 2 ^ r → ((i : ℕ) → i < r → 2 ^ i < m) → r ≡ levels m
levels_is m zero h below = omega (arith, levels_least m 0 h)
levels_is m (suc k) h below = omega (arith, levels_least m (suc k) h, below_levels m k (below k (omega arith)))

pub side_left : (s : ℕ) → s ≡ 0 → side_at s ≡ left_side
side_left zero e = refl
side_left (suc s) e = absurd (omega arith)

pub side_right : (s : ℕ) → (s ≡ 0 → ⊥) → side_at s ≡ right_side
side_right zero e = absurd (e refl)
side_right (suc s) e = refl
