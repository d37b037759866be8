-- Each fate: what was found and counted is that of a visit that ends so. Assumes nothing.
use Rattle.metric.specs.Edges.{edge_of}
use mathlib.Core.Path.{◌≡◌, ap}
use mathlib.Core.List.{[]}
use Rattle.written.specs.Visits.{ruled}
use Rattle.written.specs.Boxes.{Trees}
use Rattle.written.specs.NodePairs.{NodePair}
use Rattle.metric.specs.Flat.{boxes_of}
use Rattle.cursor.specs.Lent.{lent_trees}
use Rattle.steps.specs.Standing.{pair_at}
use Rattle.radiusvisit.specs.Moves.{fate_of}
use Rattle.radiusvisit.proofs.Ended.{ruled_none}
use Rattle.radiusvisit.proofs.finish.finish.Goals as goal

pub returns-in-RuledOut : goal.returns-in-RuledOut
returns-in-RuledOut c =
    let lent : Trees = lent_trees c.args.trees.now in
    let here : NodePair = pair_at c.args.at (boxes_of [] []) in
    let a = c.args in
    let k : fate_of a.fate ≡ ruled = ap fate_of c.in-RuledOut.is in
    rw k (ruled_none lent a.within.radius (edge_of a.within.edge) here a.t c.ruled_out.result a.counting a.lout.now a.rout.now a.dout.now c.area.ensures c.ruled_out.ensures.0 c.ruled_out.ensures.1)
