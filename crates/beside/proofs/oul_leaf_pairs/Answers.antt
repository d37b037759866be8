-- The tests of the arguments and of the rooms decide; where they pass, the pairs can be counted from 0. Assumes nothing.
use native.Mathlib.Omega.{arith}
use Rattle.metric.specs.Edges.{edge_by}
use Rattle.leaf.specs.Fits.{leaf_fits}
use Rattle.beside.proofs.Held.{pair_held, alike_held}
use Rattle.std.proofs.Common.{sym, ◌∙◌}
use Rattle.beside.proofs.oul_leaf_pairs.Goals as goal

pub leaf_pairs-requires : goal.leaf_pairs-requires
leaf_pairs-requires c = let a = c.args in
    let pair = pair_held ((sym c.pair_ok.ensures ∙ c.if-not-pair_ok.false)) in
    let t = c.points-trees.ensures in
    rw (t.axes, t.left.0, t.left.1, t.right.0, t.right.1, c.within.ensures.radius, c.within.ensures.edge)
    record { leaf_pair = pair; same_rooms = alike_held ((sym c.alike.ensures ∙ c.if-not-alike.false)); countable = omega (arith, leaf_fits a.radius (edge_by a.under) pair) }
