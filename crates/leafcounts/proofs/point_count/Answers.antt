-- All axes but the last are summed by `first_axes`, the last one by `passing`: the distances are those of the join. Assumes nothing.
use Rattle.metric.specs.Edges.{edge_of}
use Prim.Native.Nat.{◌-◌}
use Rattle.leaf.proofs.Keeping.{tile_passing}
use Rattle.leafcounts.proofs.point_count.Goals as goal

pub returns : goal.returns
returns c = let a = c.args in
    let first = c.first_axes in
    let holds = rw (c.columns-one.ensures.number, c.columns-one.ensures.coords, c.columns-many.ensures.number, c.columns-many.ensures.coords) at c.first_axes.ensures.holds in
    let t = c.tile in
    record { value = tile_passing a.trees.now.k a.within.radius (edge_of a.within.edge) a.trees.now.left.items.now a.trees.now.left.coords.now a.trees.now.right.items.now a.trees.now.right.coords.now a.p a.right.from (a.right.to - a.right.from) first.new.sums t.result.now c.passing.result c.requires.some_axes holds t.ensures.value t.ensures.len c.passing.ensures; fresh = first.ensures.fresh }
