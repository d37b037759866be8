-- The tiles before la are done: with the answers from la on improved too, it is the whole change. Assumes nothing.
use mathlib.Core.Path.{◌≡◌}
use Prim.Native.Nat.{◌-◌, ◌≤◌}
use Rattle.leaf.specs.Lent.{join_of, LeafPair}
use Rattle.leafnearest.specs.Each.{changed_from}
use Rattle.leafnearest.specs.Answers.{answers, Answering, improved}
use Rattle.leafnearest.proofs.Improved.{improvement}
use Rattle.leafnearest.proofs.update_leaf.Given as goal

abbrev pub invariant-loop-from : goal.invariant-loop-from
invariant-loop-from l =
    let j = join_of l.trees.k l.trees.left.items.now l.trees.left.coords.now l.trees.right.items.now l.trees.right.coords.now in
    LeafPair l.trees.k l.trees.left.items.now l.trees.left.coords.now l.left.from l.left.to l.trees.right.items.now l.trees.right.coords.now l.right.from l.right.to × Answering l.left.from l.left.to l.items l.dists × (l.left.from ≤ l.from) × (l.from ≤ l.left.to) × (changed_from (improvement j l.right.from l.right.to) l.from (l.from - l.left.from) (answers l.items l.dists) ≡ improved j l.left.from l.right.from l.right.to (answers l.initial.items l.initial.dists))

abbrev pub decreases-loop-from : goal.decreases-loop-from
decreases-loop-from l = l.left.to - l.from
