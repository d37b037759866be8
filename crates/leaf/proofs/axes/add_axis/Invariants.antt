-- The places so far hold one axis more, the others are as they were. Assumes nothing.
use mathlib.Core.Path.{◌≡◌}
use mathlib.Core.Bool.{cond, not}
use Rattle.std.proofs.Common.{ℕ, ◌≤◌, nat_eq}
use lib.ListN.{length, get_or}
use lib.Ieee.{nan}
use Rattle.rounding.specs.Distance.{zero₊}
use Rattle.leaf.specs.Sums.{Holds, grown}
use Rattle.leaf.proofs.axes.add_axis.Given as goal

abbrev pub invariant-loop-j : goal.invariant-loop-j
invariant-loop-j g l =
    (length l.column ≤ length l.sums) × Holds l.sums l.j (λ i. grown (cond (not (nat_eq g.row.FIRST 0)) zero₊ (get_or l.initial.sums i nan)) l.q (get_or l.column i nan)) × ((i : ℕ) → l.j ≤ i → get_or l.sums i nan ≡ get_or l.initial.sums i nan)
