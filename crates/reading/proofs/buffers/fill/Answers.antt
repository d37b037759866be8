-- Nothing lies in a row of none, and each turn puts one value more. Assumes nothing.
use Rattle.std.proofs.Common.{refl, arith}
use Rattle.reading.specs.Little.{in_a_row}
use Rattle.reading.proofs.Filling.{one_more}
use Rattle.reading.proofs.buffers.fill.Goals as goal

pub loop-i-init : goal.loop-i-init
unfolding in_a_row
loop-i-init g c = refl

pub loop-i-preserved : goal.loop-i-preserved
loop-i-preserved g c =
    one_more _ _ _ c.loop-i.out c.loop-i.i c.at.result (omega arith) c.loop-i.invariant (rw c.WIDTH.ensures at c.at.ensures)
