-- What the right tiles from ra on keep is left to gather. Assumes nothing.
use mathlib.Core.Path.{◌≡◌, sym, subst}
use mathlib.Core.List.{List, ◌++◌}
use Prim.Native.Nat.{ℕ, ◌<◌}
use native.Mathlib.Omega.{arith}
use Rattle.written.specs.RadiusWalk.{Found}
use Rattle.leaf.specs.Kept.{keeps_in, of_tile_pair, of_tile_leaf}
use Rattle.leaf.proofs.Gathered.{none_left, next_room, next_left}
use Rattle.leaf.proofs.Tiled.{tile_next, tiles_none, tile_end}
use Rattle.leaf.proofs.gather.tile_leaf.Goals as goal

-- the first of the right tiles, which ends at re, and those after it
parts : (f : ℕ → ℕ → List Found) (la le ra rend : ℕ) {re : ℕ} → re ≡ tile_end ra rend → ra < rend → of_tile_leaf f la le ra rend ≡ of_tile_pair f la le ra re ++ of_tile_leaf f la le re rend
parts f la le ra rend e h = subst (λ (re : ℕ). of_tile_leaf f la le ra rend ≡ of_tile_pair f la le ra re ++ of_tile_leaf f la le re rend) (sym e) (tile_next f la le ra rend h)

pub tile_pair-requires-clause-room : goal.tile_pair-requires-clause-room
tile_pair-requires-clause-room g c =
    let a = c.args in
    let u = c.loop-from in
    next_room g.met.G.Gather.laws u.invariant.3 _ _ (parts (keeps_in a.trees.now a.within) a.left.from a.left.to u.from a.right.to c.tile_end.ensures c.loop-from-test.true)

pub loop-from-preserved : goal.loop-from-preserved
loop-from-preserved g c =
    let a = c.args in
    let u = c.loop-from in
    let e = c.tile_end.ensures in
    (omega (arith, e, u.invariant.0), omega (arith, e, u.invariant.1), u.invariant.2, next_left g.met.G.Gather.laws u.invariant.3 _ _ (parts (keeps_in a.trees.now a.within) a.left.from a.left.to u.from a.right.to e c.loop-from-test.true) c.tile_pair.ensures)

pub returns : goal.returns
returns g c =
    let a = c.args in
    let u = c.loop-from in
    none_left g.met.G.Gather.laws u.invariant.3 (tiles_none (keeps_in a.trees.now a.within) a.left.from a.left.to u.from a.right.to c.loop-from-test.false)
