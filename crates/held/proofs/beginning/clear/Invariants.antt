-- The first i answers are unset. Assumes nothing.
use mathlib.Core.Path.{◌≡◌}
use mathlib.Core.Bool.{false}
use lib.ListN.{length, take, replicate}
use lib.Ieee.{inf}
use Rattle.written.specs.Nearest.{unset}
use Rattle.leafnearest.specs.Answers.{answers}
use Rattle.held.proofs.beginning.clear.Given as goal

abbrev pub invariant-loop-i : goal.invariant-loop-i
invariant-loop-i l =
    (length l.items ≡ length l.initial.items) × (length l.dists ≡ length l.initial.items) × (l.top ≡ inf false) × (take l.i (answers l.items l.dists) ≡ replicate l.i unset)
