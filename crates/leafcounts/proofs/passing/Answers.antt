-- The number so far is that of the places so far that pass. Assumes nothing.
use mathlib.Core.Path.{refl}
use Prim.Native.Nat.{◌+◌}
use native.Mathlib.Omega.{arith}
use Rattle.metric.specs.Edges.{edge_of}
use Rattle.leaf.specs.Sums.{hits, passing, reached}
use Rattle.leaf.proofs.Hits.{hits_few, hits_next}
use Rattle.leafcounts.proofs.passing.Goals as goal

pub loop-j-init : goal.loop-j-init
unfolding hits
loop-j-init c = refl

pub overflow_add-n : goal.overflow_add-n
overflow_add-n c = let w = c.loop-j in
    let a = c.args in
    let test = passing (edge_of a.within.edge) a.within.radius (reached a.sums.now a.q a.column.now) in
    omega (arith, hits_few test (w.j + 1), hits_next test w.j w.invariant (rw c.square.ensures at c.passes-n.ensures))

pub loop-j-preserved : goal.loop-j-preserved
loop-j-preserved c = hits_next _ _ c.loop-j.invariant (rw c.square.ensures at c.passes-n.ensures)
