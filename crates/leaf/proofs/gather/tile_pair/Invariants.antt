-- What the points from p on keep is left to gather. Assumes nothing.
use Rattle.leaf.specs.Kept.{keeps_in, of_tile_pair}
use Rattle.leaf.specs.Lent.{TilePairIn}
use Rattle.leaf.specs.Sums.{Fresh}
use Rattle.leaf.proofs.Gathered.{Left}
use Rattle.leaf.proofs.gather.tile_pair.Given as goal

abbrev pub invariant-loop-p : goal.invariant-loop-p
invariant-loop-p g l =
    let m = g.G.Gather in
    let f = keeps_in l.trees l.within in
    TilePairIn l.trees l.fn.left l.right × Fresh l.trees.k l.sums × Left m.takes m.after l.initial.gather (of_tile_pair f l.fn.left.from l.fn.left.to l.right.from l.right.to) l.gather (of_tile_pair f l.p l.fn.left.to l.right.from l.right.to)
