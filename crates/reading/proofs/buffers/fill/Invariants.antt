-- The first i places hold the first i values. Assumes nothing.
use Rattle.std.proofs.Common.{◌≡◌, take}
use Rattle.reading.specs.Little.{in_a_row}
use Rattle.reading.proofs.buffers.fill.Given as goal

abbrev pub invariant-loop-i : goal.invariant-loop-i
invariant-loop-i g l = take l.i l.out ≡ in_a_row g.T.Little.WIDTH (g.T.Little.value l.s) l.part.at l.i
