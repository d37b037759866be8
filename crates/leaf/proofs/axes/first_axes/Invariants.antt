-- With one axis the sums are 0 as they came. Else the axes so far are summed, and each tile is a part of its column. Assumes nothing.
use Prim.Native.Nat.{◌-◌, ◌≤◌, ◌<◌}
use Rattle.metric.specs.Lent.{HoldsPlace}
use Rattle.leaf.specs.Sums.{Holds, sum_to, TileOf}
use Rattle.leaf.proofs.axes.first_axes.Given as goal

abbrev pub invariant-loop-d : goal.invariant-loop-d
invariant-loop-d l =
    (1 < l.k) × (l.k ≤ 4) × (l.one.n ≤ 65536) × HoldsPlace l.k l.one.coords.now l.one.n l.p × TileOf l.k l.many.coords.now l.many.n l.tile.from l.tile.to × Holds l.sums (l.tile.to - l.tile.from) (sum_to l.one.coords.now l.one.n l.p l.many.coords.now l.many.n l.tile.from l.d)
