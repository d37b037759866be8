-- The places of both leaves are read; where none can gain the answers stay, else the left leaf's stretch of the answers comes back improved, and nothing else changed. Assumes nothing.
use mathlib.Core.Path.{refl, sym, ◌∙◌}
use mathlib.Core.List.{[]}
use Rattle.written.specs.Boxes.{Trees, Boxes}
use Rattle.written.specs.NodePairs.{NodePair, area}
use Rattle.metric.specs.Flat.{boxes_of}
use Rattle.leaf.specs.Lent.{LeafPair}
use Rattle.cursor.specs.Lent.{lent_trees}
use Rattle.steps.specs.Standing.{pair_at}
use Rattle.steps.proofs.PlacesRead.{PlacesRead, leaves_read}
use Rattle.nearvisit.proofs.NoGain.{no_gain}
use Rattle.nearvisit.proofs.Parts.{leaf_put_back}
use Rattle.nearvisit.proofs.finish.measure.Goals as goal

pub returns-then-not-gains : goal.returns-then-not-gains
returns-then-not-gains c =
    let lent : Trees = lent_trees c.args.trees.now in
    let here : Boxes → NodePair = λ b. pair_at c.args.at b in
    let read : (b : Boxes) → PlacesRead lent (here b) (area lent (here b)) c.places-left.result.from c.places-left.result.to c.places-right.result.from c.places-right.result.to = λ b. record { pairs = refl; left_from = c.places-left.ensures.from; left_to = c.places-left.ensures.to; right_from = c.places-right.ensures.from; right_to = c.places-right.ensures.to } in
    let leaves : let a = c.args in LeafPair a.trees.now.k a.trees.now.left.items.now a.trees.now.left.coords.now c.places-left.result.from c.places-left.result.to a.trees.now.right.items.now a.trees.now.right.coords.now c.places-right.result.from c.places-right.result.to = leaves_read lent (here (boxes_of [] [])) (read (boxes_of [] [])) c.requires.leaves.pair in
    let a = c.args in
    let b = boxes_of a.boxes.now.min a.boxes.now.max in
    no_gain lent (here b) a.items.now a.dists.now (read b) leaves c.requires.answering (boxes_of [] []) c.requires.box_no_farther (sym (rw (c.columns.ensures.number, c.columns.ensures.coords) at c.gains.ensures) ∙ c.if-not-gains.true)

pub returns : goal.returns
returns c =
    let lent : Trees = lent_trees c.args.trees.now in
    let here : Boxes → NodePair = λ b. pair_at c.args.at b in
    let read : (b : Boxes) → PlacesRead lent (here b) (area lent (here b)) c.places-left.result.from c.places-left.result.to c.places-right.result.from c.places-right.result.to = λ b. record { pairs = refl; left_from = c.places-left.ensures.from; left_to = c.places-left.ensures.to; right_from = c.places-right.ensures.from; right_to = c.places-right.ensures.to } in
    let leaves : let a = c.args in LeafPair a.trees.now.k a.trees.now.left.items.now a.trees.now.left.coords.now c.places-left.result.from c.places-left.result.to a.trees.now.right.items.now a.trees.now.right.coords.now c.places-right.result.from c.places-right.result.to = leaves_read lent (here (boxes_of [] [])) (read (boxes_of [] [])) c.requires.leaves.pair in
    let a = c.args in
    let lent-last = c.update_leaf.new in
    leaf_put_back lent (here (boxes_of [] [])) a.items.now lent-last.items a.dists.now lent-last.dists c.places-left.result.from c.places-left.result.to c.places-right.result.from c.places-right.result.to (read (boxes_of [] [])) leaves c.requires.answering c.items-1.given.0 c.dists-1.given.0 c.update_leaf.ensures
