-- The pairs passed are the recorded ones. Assumes nothing.
use Rattle.replay.specs.Same.{Stored}
use Rattle.replay.proofs.compare.stored.Given as goal

abbrev pub invariant-loop-i : goal.invariant-loop-i
invariant-loop-i l = Stored l.s l.i l.l l.r l.d
