-- What the left tiles from la on keep is left to gather. Assumes nothing.
use mathlib.Core.Path.{◌≡◌, sym, subst}
use mathlib.Core.List.{List, ◌++◌}
use Prim.Native.Nat.{ℕ, ◌<◌}
use native.Mathlib.Omega.{arith}
use Rattle.written.specs.RadiusWalk.{Found}
use Rattle.leaf.specs.Kept.{keeps_in, of_tile_leaf, of_leaves}
use Rattle.leaf.proofs.Gathered.{none_left, next_room, next_left}
use Rattle.leaf.proofs.Tiled.{leaf_next, leaf_done, tile_end}
use Rattle.leaf.proofs.gather.leaves.Goals as goal

-- the first of the left tiles, which ends at le, and those after it
parts : (f : ℕ → ℕ → List Found) (la lend rs rend : ℕ) {le : ℕ} → le ≡ tile_end la lend → la < lend → of_leaves f la lend rs rend ≡ of_tile_leaf f la le rs rend ++ of_leaves f le lend rs rend
parts f la lend rs rend e h = subst (λ (le : ℕ). of_leaves f la lend rs rend ≡ of_tile_leaf f la le rs rend ++ of_leaves f le lend rs rend) (sym e) (leaf_next f la lend rs rend h)

pub tile_leaf-requires-clause-room : goal.tile_leaf-requires-clause-room
tile_leaf-requires-clause-room g c =
    let a = c.args in
    let u = c.loop-from in
    next_room g.met.G.Gather.laws u.invariant.3 _ _ (parts (keeps_in a.trees.now a.within) u.from a.left.to a.right.from a.right.to c.tile_end.ensures c.loop-from-test.true)

pub loop-from-preserved : goal.loop-from-preserved
loop-from-preserved g c =
    let a = c.args in
    let u = c.loop-from in
    let e = c.tile_end.ensures in
    (omega (arith, e, u.invariant.0), omega (arith, e, u.invariant.1), u.invariant.2, next_left g.met.G.Gather.laws u.invariant.3 _ _ (parts (keeps_in a.trees.now a.within) u.from a.left.to a.right.from a.right.to e c.loop-from-test.true) c.tile_leaf.ensures)

pub returns : goal.returns
returns g c =
    let a = c.args in
    let u = c.loop-from in
    none_left g.met.G.Gather.laws u.invariant.3 (leaf_done (keeps_in a.trees.now a.within) u.from a.left.to a.right.from a.right.to c.loop-from-test.false)
