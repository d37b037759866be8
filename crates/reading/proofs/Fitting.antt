-- How many stems a tree in a job can have. Assumes nothing.
use mathlib.Core.Bool.{Bool, true, false, cond}
use Prim.Native.Nat.{ℕ, ◌^◌, ◌≤◌}
use native.Mathlib.Omega.{arith}
use lib.Dec.{ltb}
use lib.Pow.{pow_mono}
use Rattle.written.specs.LentTree.{levels, stem_count}
use Rattle.written.proofs.Laws.LentTree.{levels_least}

-- no more than the next power of two from 4,096
pub few_stems : (m : ℕ) → m ≤ 4096 → stem_count m ≤ 4096
few_stems m h = go (ltb m 2)
  where
    power : 2 ^ levels m ≤ 2 ^ 12
    power = pow_mono {i = levels m} {j = 12} (levels_least m 12 h)

    go : (b : Bool) → cond b 0 (2 ^ levels m) ≤ 4096
    go true = omega arith
    go false = power
