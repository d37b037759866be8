-- With the right places from q on still to come, the answers are those of all of them. Assumes nothing.
use mathlib.Core.Path.{◌≡◌}
use Rattle.leaf.specs.Lent.{join_of, TilePair}
use Rattle.leaf.specs.Sums.{Fresh}
use Rattle.leafnearest.specs.Answers.{answers, Answering, improved}
use Rattle.leafnearest.proofs.tile_nearest.Given as goal

abbrev pub invariant-loop-q : goal.invariant-loop-q
invariant-loop-q l =
    let j = join_of l.trees.k l.trees.left.items.now l.trees.left.coords.now l.trees.right.items.now l.trees.right.coords.now in
    TilePair l.trees.k l.trees.right.items.now l.trees.right.coords.now l.fn.right.from l.fn.right.to l.trees.left.items.now l.trees.left.coords.now l.left.from l.left.to × Answering l.left.from l.left.to l.items l.dists × Fresh l.trees.k l.sums × (improved j l.left.from l.q l.fn.right.to (answers l.items l.dists) ≡ improved j l.left.from l.fn.right.from l.fn.right.to (answers l.initial.items l.initial.dists))
