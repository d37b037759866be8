-- Counted so far: how many of the first i distances are smaller. Assumes nothing.
use mathlib.Core.Path.{refl}
use Prim.Native.Nat.{◌+◌}
use native.Mathlib.Omega.{arith}
use Rattle.leaf.specs.Sums.{reached, hits}
use Rattle.leaf.proofs.Hits.{hits_few, hits_next}
use Rattle.leafnearest.specs.Answers.{closer}
use Rattle.leafnearest.proofs.improving.Goals as goal

pub loop-i-init : goal.loop-i-init
unfolding hits
loop-i-init c = (c.requires.0, c.requires.1, refl)

pub overflow_add-n : goal.overflow_add-n
overflow_add-n c = let w = c.loop-i in
    let a = c.args in
    let test = closer (reached a.sums.now a.q a.column.now) a.dists.now in
    omega (arith, hits_few test (w.i + 1), hits_next test w.i w.invariant.2 (rw c.square.ensures at c.nearer-n.ensures))

pub loop-i-preserved : goal.loop-i-preserved
loop-i-preserved c = let w = c.loop-i in
    (w.invariant.0, w.invariant.1, hits_next _ w.i w.invariant.2 (rw c.square.ensures at c.nearer-n.ensures))
