-- The places of both leaves are read, and all pairs of them counted as measured; the loop found what the leaf pair has. Assumes nothing.
use Rattle.metric.specs.Edges.{edge_of}
use mathlib.Core.List.{List, []}
use Prim.Native.Nat.{◌^◌, ◌≤◌}
use native.Mathlib.Omega.{arith}
use lib.ListN.{length}
use Rattle.written.specs.Boxes.{Trees}
use Rattle.written.specs.NodePairs.{NodePair}
use Rattle.written.specs.RadiusWalk.{Found}
use Rattle.metric.specs.Flat.{boxes_of}
use Rattle.leaf.specs.Lent.{LeafPair}
use Rattle.leaf.specs.Fits.{leaf_fits}
use Rattle.cursor.specs.Lent.{lent_trees}
use Rattle.steps.specs.Standing.{pair_at}
use Rattle.steps.proofs.PlacesRead.{area_few, PlacesRead, leaves_read}
use Rattle.radiusvisit.proofs.Ended.{leaf_loops, measured_count, measured_pairs}
use Rattle.radiusvisit.proofs.finish.measure.Goals as goal

pub overflow_add-t : goal.overflow_add-t
overflow_add-t c =
    let lent : Trees = lent_trees c.args.trees.now in
    let here : NodePair = pair_at c.args.at (boxes_of [] []) in
    let finds : List Found = let a = c.args in leaf_loops lent a.within.radius (edge_of a.within.edge) here c.places-left.result.from c.places-left.result.to c.places-right.result.from c.places-right.result.to in
    let read : PlacesRead lent here c.area-n.result c.places-left.result.from c.places-left.result.to c.places-right.result.from c.places-right.result.to = record { pairs = c.area-n.ensures; left_from = c.places-left.ensures.from; left_to = c.places-left.ensures.to; right_from = c.places-right.ensures.from; right_to = c.places-right.ensures.to } in
    let leaves : let a = c.args in LeafPair a.trees.now.k a.trees.now.left.items.now a.trees.now.left.coords.now c.places-left.result.from c.places-left.result.to a.trees.now.right.items.now a.trees.now.right.coords.now c.places-right.result.from c.places-right.result.to = leaves_read lent here read c.requires.leaves.pair in
    let few : (length finds ≤ 2 ^ 32) × (c.area-n.result ≤ 2 ^ 32) = let a = c.args in
    let l = c.requires.leaves in
    (leaf_fits a.within.radius (edge_of a.within.edge) leaves, rw read.pairs (area_few l.left_within l.right_within)) in
    omega (arith, few, c.leaf_counts-more.ensures, c.requires.few)

pub returns-then-counting : goal.returns-then-counting
returns-then-counting c =
    let lent : Trees = lent_trees c.args.trees.now in
    let here : NodePair = pair_at c.args.at (boxes_of [] []) in
    let read : PlacesRead lent here c.area-n.result c.places-left.result.from c.places-left.result.to c.places-right.result.from c.places-right.result.to = record { pairs = c.area-n.ensures; left_from = c.places-left.ensures.from; left_to = c.places-left.ensures.to; right_from = c.places-right.ensures.from; right_to = c.places-right.ensures.to } in
    let a = c.args in
    rw c.if-counting.true (measured_count lent a.within.radius (edge_of a.within.edge) here a.t c.measured.result a.lout.now a.rout.now a.dout.now read c.leaf_counts-more.ensures c.measured.ensures.0 c.measured.ensures.1)

pub leaf_pairs-found-requires : goal.leaf_pairs-found-requires
leaf_pairs-found-requires c =
    let lent : Trees = lent_trees c.args.trees.now in
    let here : NodePair = pair_at c.args.at (boxes_of [] []) in
    let read : PlacesRead lent here c.area-n.result c.places-left.result.from c.places-left.result.to c.places-right.result.from c.places-right.result.to = record { pairs = c.area-n.ensures; left_from = c.places-left.ensures.from; left_to = c.places-left.ensures.to; right_from = c.places-right.ensures.from; right_to = c.places-right.ensures.to } in
    let leaves : let a = c.args in LeafPair a.trees.now.k a.trees.now.left.items.now a.trees.now.left.coords.now c.places-left.result.from c.places-left.result.to a.trees.now.right.items.now a.trees.now.right.coords.now c.places-right.result.from c.places-right.result.to = leaves_read lent here read c.requires.leaves.pair in
    let finds : List Found = let a = c.args in leaf_loops lent a.within.radius (edge_of a.within.edge) here c.places-left.result.from c.places-left.result.to c.places-right.result.from c.places-right.result.to in
    let few : (length finds ≤ 2 ^ 32) × (c.area-n.result ≤ 2 ^ 32) = let a = c.args in
    let l = c.requires.leaves in
    (leaf_fits a.within.radius (edge_of a.within.edge) leaves, rw read.pairs (area_few l.left_within l.right_within)) in
    record { leaf_pair = leaves; same_rooms = c.requires.same_rooms; countable = omega (arith, few, c.requires.few) }

pub returns : goal.returns
returns c =
    let lent : Trees = lent_trees c.args.trees.now in
    let here : NodePair = pair_at c.args.at (boxes_of [] []) in
    let read : PlacesRead lent here c.area-n.result c.places-left.result.from c.places-left.result.to c.places-right.result.from c.places-right.result.to = record { pairs = c.area-n.ensures; left_from = c.places-left.ensures.from; left_to = c.places-left.ensures.to; right_from = c.places-right.ensures.from; right_to = c.places-right.ensures.to } in
    let a = c.args in
    rw c.if-counting.false (measured_pairs lent a.within.radius (edge_of a.within.edge) here a.t c.measured-2.result a.lout.now a.rout.now a.dout.now read c.leaf_pairs-found.ensures c.measured-2.ensures.0 c.measured-2.ensures.1)
