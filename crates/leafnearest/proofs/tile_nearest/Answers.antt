-- With the right places from q on still to come, the answers are those of all of them. Assumes nothing.
use mathlib.Core.Path.{refl, sym, ap, ◌∙◌}
use Prim.Native.Nat.{◌+◌}
use native.Mathlib.Omega.{arith}
use Rattle.leaf.specs.Lent.{join_of}
use Rattle.leaf.proofs.Parts.{fresh_row}
use Rattle.leafnearest.specs.Answers.{answers, improved}
use Rattle.leafnearest.proofs.Improved.{improved_none, improved_next}
use Rattle.std.proofs.Common.{rules}
use Rattle.leafnearest.proofs.tile_nearest.Goals as goal

pub loop-q-init : goal.loop-q-init
loop-q-init c = let h = c.requires in
    (h.tile_pair, h.answering, fresh_row _, refl)

pub loop-q-preserved : goal.loop-q-preserved
loop-q-preserved c = let w = c.loop-q in
    let a = c.args in
    let p = c.point_nearest in
    let j = join_of a.trees.now.k a.trees.now.left.items.now a.trees.now.left.coords.now a.trees.now.right.items.now a.trees.now.right.coords.now in
    (w.invariant.0, search rules, p.ensures.fresh, ap (improved j a.left.from (w.q + 1) a.right.to) p.ensures.dists_after ∙ improved_next j a.left.from (answers w.items w.dists) w.q a.right.to (omega (arith, c.loop-q-test.true)) ∙ w.invariant.3)

pub returns : goal.returns
returns c = let w = c.loop-q in
    let a = c.args in
    sym (improved_none (join_of a.trees.now.k a.trees.now.left.items.now a.trees.now.left.coords.now a.trees.now.right.items.now a.trees.now.right.coords.now) a.left.from (answers w.items w.dists) w.q a.right.to (omega (arith, c.loop-q-test.false))) ∙ w.invariant.3
