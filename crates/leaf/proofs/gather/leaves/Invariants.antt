-- What the left tiles from la on keep is left to gather. Assumes nothing.
use Prim.Native.Nat.{◌-◌, ◌≤◌}
use Rattle.leaf.specs.Kept.{keeps_in, of_leaves}
use Rattle.leaf.specs.Lent.{LeafPairIn}
use Rattle.leaf.proofs.Gathered.{Left}
use Rattle.leaf.proofs.gather.leaves.Given as goal

abbrev pub invariant-loop-from : goal.invariant-loop-from
invariant-loop-from g l =
    let m = g.G.Gather in
    let f = keeps_in l.trees l.within in
    (l.left.from ≤ l.from) × (l.from ≤ l.left.to) × LeafPairIn l.trees l.left l.right × Left m.takes m.after l.initial.gather (of_leaves f l.left.from l.left.to l.right.from l.right.to) l.gather (of_leaves f l.from l.left.to l.right.from l.right.to)

abbrev pub decreases-loop-from : goal.decreases-loop-from
decreases-loop-from g l = l.left.to - l.from
