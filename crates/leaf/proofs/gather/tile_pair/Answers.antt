-- What the points from p on keep is left to gather. Assumes nothing.
use native.Mathlib.Numerals.{add-one}
use native.Mathlib.Omega.{arith}
use Rattle.leaf.specs.Kept.{keeps_in}
use Rattle.leaf.proofs.Gathered.{all_left, none_left, next_room, next_left}
use Rattle.leaf.proofs.Parts.{point_tile, fresh_row}
use Rattle.leaf.proofs.Tiled.{point_next, points_done}
use Rattle.leaf.proofs.gather.tile_pair.Goals as goal

pub loop-p-init : goal.loop-p-init
loop-p-init g c = (c.requires.tile_pair, fresh_row c.args.trees.now.k, all_left c.requires.room)

pub point-requires : goal.point-requires
point-requires g c =
    let a = c.args in
    let u = c.loop-p in
    record { point_tile = point_tile u.invariant.0 (omega arith) c.loop-p-test.true u.invariant.1; room = next_room g.met.G.Gather.laws u.invariant.2 _ _ (point_next (keeps_in a.trees.now a.within) u.p a.left.to a.right.from a.right.to c.loop-p-test.true) }

pub loop-p-preserved : goal.loop-p-preserved
loop-p-preserved g c =
    let a = c.args in
    let u = c.loop-p in
    (u.invariant.0, c.point.ensures.fresh, rw (add-one u.p) (next_left g.met.G.Gather.laws u.invariant.2 _ _ (point_next (keeps_in a.trees.now a.within) u.p a.left.to a.right.from a.right.to c.loop-p-test.true) c.point.ensures.gathered))

pub returns : goal.returns
returns g c =
    let a = c.args in
    let u = c.loop-p in
    none_left g.met.G.Gather.laws u.invariant.2 (points_done (keeps_in a.trees.now a.within) u.p a.left.to a.right.from a.right.to c.loop-p-test.false)
