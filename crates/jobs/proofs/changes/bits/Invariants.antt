-- The job keeps its length. Assumes nothing.
use Rattle.std.proofs.Common.{◌≤◌, length}
use Rattle.jobs.proofs.changes.bits.Given as goal

abbrev pub invariant-loop-b : goal.invariant-loop-b
invariant-loop-b g l = length l.job ≤ 131072
