-- The first i answers are done: with the others changed as the definition says, it is the whole change. Assumes nothing.
use mathlib.Core.Path.{refl, sym, ap, ◌∙◌}
use native.Mathlib.Omega.{arith}
use lib.ListN.{length-set}
use lib.Ieee.{add, binary64}
use Rattle.leaf.specs.Sums.{reached}
use Rattle.leafnearest.specs.Answers.{answers}
use Rattle.leafnearest.specs.Each.{changed_from, changed_all}
use Rattle.leafnearest.proofs.Stored.{length_answers, stored_next}
use Rattle.leafnearest.proofs.keep_nearer.Goals as goal

pub loop-i-init : goal.loop-i-init
unfolding changed_from
loop-i-init c = let h = c.requires in
    (h.0, h.1, h.2, refl)

pub loop-i-preserved : goal.loop-i-preserved
loop-i-preserved c = let w = c.loop-i in
    let a = c.args in
    (w.invariant.0, simp length-set w.invariant.1, simp length-set w.invariant.2, stored_next (reached a.sums.now a.q a.column.now) a.item w.items w.dists w.i (omega arith) (omega arith) (ap (add binary64 _) c.square.ensures) c.nearer.ensures c.nearer-in-loop-i.ensures ∙ w.invariant.3)

pub returns : goal.returns
returns c = let w = c.loop-i in
    sym (changed_all _ w.i w.i (answers w.items w.dists) (omega (arith, length_answers w.items w.dists (omega arith), c.loop-i-test.false))) ∙ w.invariant.3
