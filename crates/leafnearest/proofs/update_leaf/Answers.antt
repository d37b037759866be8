-- The tiles before la are done: with the answers from la on improved too, it is the whole change. Assumes nothing.
use mathlib.Core.Path.{◌≡◌, sym, ◌∙◌}
use Prim.Native.Nat.{◌-◌}
use native.Mathlib.Nat.{le_trans}
use native.Mathlib.Omega.{arith}
use Rattle.leaf.specs.Lent.{join_of}
use Rattle.leafnearest.specs.Each.{changed_none, changed_all}
use Rattle.leafnearest.specs.Answers.{answers}
use Rattle.leafnearest.proofs.Improved.{improvement}
use Rattle.leafnearest.proofs.Stored.{length_answers}
use Rattle.leafnearest.proofs.Changed.{tile_ends, part_place, part_end, part_inside, part_changed}
use Rattle.std.proofs.Common.{rules}
use Rattle.leafnearest.proofs.update_leaf.Goals as goal

pub loop-from-init : goal.loop-from-init
loop-from-init c = let z : c.args.left.from - c.args.left.from ≡ 0 = omega arith in
    (c.requires.leaf_pair, c.requires.answering, omega arith, c.requires.leaf_pair.left.rising, rw z (changed_none _ _ _))

pub loop-from-preserved : goal.loop-from-preserved
loop-from-preserved c = let w = c.loop-from in
    let a = c.args in
    let t = tile_ends c.loop-from-test.true c.tile_end.ensures in
    let h = w.invariant.2 in
    let lent = c.tile_nearest.new in
    let j = join_of a.trees.now.k a.trees.now.left.items.now a.trees.now.left.coords.now a.trees.now.right.items.now a.trees.now.right.coords.now in
    (w.invariant.0, search rules, le_trans h t.0, t.1, part_changed (improvement j a.right.from a.right.to) w.from (w.from - a.left.from) _ w.items lent.items w.dists lent.dists (w.invariant.1.0 ∙ sym w.invariant.1.1) (part_inside h t.0 t.1 w.items w.invariant.1.0) c.items-1.given.0 c.dists-1.given.0 c.tile_nearest.ensures (part_place h t.0 t.1) (part_end h t.0 t.1) ∙ w.invariant.4)

pub returns : goal.returns
returns c = let w = c.loop-from in
    sym (changed_all _ w.from (w.from - _) (answers w.items w.dists) (omega (arith, length_answers w.items w.dists (omega arith), c.loop-from-test.false))) ∙ w.invariant.4
