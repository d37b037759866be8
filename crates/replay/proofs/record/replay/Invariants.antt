-- What is left of the input only shrinks. Assumes nothing.
use Rattle.std.proofs.Common.{length}
use Rattle.replay.proofs.record.replay.Given as goal

abbrev pub decreases-loop-rest : goal.decreases-loop-rest
decreases-loop-rest l = length l.rest
