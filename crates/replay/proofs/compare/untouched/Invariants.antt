-- The places passed are as they were filled. Assumes nothing.
use Rattle.std.proofs.Common.{ℕ, ◌≤◌, ◌<◌, get_or}
use lib.Ieee.{nan}
use Rattle.replay.specs.Same.{Empty}
use Rattle.replay.proofs.compare.untouched.Given as goal

abbrev pub invariant-loop-i : goal.invariant-loop-i
invariant-loop-i l = (k : ℕ) → k < l.i → l.n ≤ k → Empty (get_or l.l k 0) (get_or l.r k 0) (get_or l.d k nan)
