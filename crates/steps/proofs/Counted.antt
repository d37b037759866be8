-- What is counted at each visit: one node pair more, and the pairs of places of its fate. Assumes nothing.
use mathlib.Core.Path.{◌≡◌}
use Prim.Native.Nat.{ℕ, ◌≤◌}
use native.Mathlib.Omega.{arith}
use Rattle.written.specs.Visits.{Fate, measured, ruled, whole, Run, stop, one, two, visits}
use Rattle.written.specs.Totals.{Totals}
use Rattle.steps.specs.declared.tally.Tally.{Tally}
use Rattle.steps.specs.Counted.{totals_held, visited}

-- one node pair more is examined
abbrev pub Examined : (t t' : Tally) → Type 0
Examined t t' = (t'.found ≡ t.found) × (totals_held t' ≡ visited (totals_held t))

pub some_visits : {S : Type 0} (r : Run S) → 1 ≤ visits r
unfolding visits
some_visits (stop s k) = omega arith
some_visits (one s r) = omega arith
some_visits (two s r t) = omega arith

-- the pairs of places of one fate
abbrev pub of_fate : Fate → Totals → ℕ
of_fate measured t = t.measured
of_fate ruled t = t.ruled_out
of_fate whole t = t.whole
