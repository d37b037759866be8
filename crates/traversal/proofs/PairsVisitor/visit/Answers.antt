-- A visit of the radius walk: what it needs holds of node pairs of accepted trees, and it does what the walk does there. Assumes nothing.
use mathlib.Core.Path.{refl, ap}
use native.Mathlib.Omega.{arith}
use Rattle.written.specs.Check.{rule₁}
use Rattle.written.specs.NodePairs.{left_side}
use Rattle.written.specs.Totals.{Totals}
use Rattle.metric.specs.Edges.{edge_of}
use Rattle.metric.specs.Flat.{boxes_of}
use Rattle.cursor.specs.Lent.{lent_trees}
use Rattle.steps.proofs.Reading.{keeps, ordered_both, leaves_read}
use Rattle.radiusvisit.specs.Work.{Work}
use Rattle.traversal.specs.Through.{tally_examined}
use Rattle.traversal.proofs.Bounded.{few_examined, unvisited}
use Rattle.traversal.proofs.Turning.{ends_with, splits_with, ended}
use Rattle.traversal.proofs.PairsVisitor.visit.Goals as goal

pub visited-self-requires : goal.visited-self-requires
visited-self-requires c =
    let u = c.requires.under in
    omega (arith, unvisited _ _ _ _ c.requires.accepts _ _ u.1.0 u.1.1 u.2)

pub choose-requires : goal.choose-requires
choose-requires c = ((keeps _ c.requires.accepts left_side rule₁).1, ordered_both _ c.requires.accepts _ c.requires.good.node)

pub finish-self-requires-clause-leaves : goal.finish-self-requires-clause-leaves
finish-self-requires-clause-leaves c = leaves_read _ c.requires.accepts _ c.requires.good.node

pub finish-self-requires-clause-few : goal.finish-self-requires-clause-few
finish-self-requires-clause-few c =
    let u = c.requires.under in
    few_examined _ _ _ _ c.requires.accepts _ _ u.1.0 u.1.1 u.2 _ _ refl refl c.visited-self.ensures

pub finish-self-requires-clause-may_end : goal.finish-self-requires-clause-may_end
finish-self-requires-clause-may_end c =
    let a = c.args in
    let v = a.self.now in
    (ends_with (lent_trees a.trees.now) (edge_of v.within.edge) v.within.radius v.counting a.at (boxes_of a.boxes.now.min a.boxes.now.max) c.in-End.is c.choose.ensures).allowed

pub returns-in-End-clause-visited : goal.returns-in-End-clause-visited
returns-in-End-clause-visited c =
    let a = c.args in
    let v = a.self.now in
    ended (lent_trees a.trees.now) (edge_of v.within.edge) v.within.radius v.counting a.at (boxes_of a.boxes.now.min a.boxes.now.max) _ c.in-End.is c.choose.ensures (tally_examined _ _ _ _ _ c.visited-self.ensures) c.finish-self.ensures

pub returns-in-End-clause-fewer : goal.returns-in-End-clause-fewer
returns-in-End-clause-fewer c =
    let u = c.requires.under in
    omega (arith, unvisited _ _ _ _ c.requires.accepts _ _ u.1.0 u.1.1 u.2, ap (λ (w : Work). w.totals.visits) c.finish-self.ensures, ap (λ (t : Totals). t.visits) c.visited-self.ensures.1)

pub returns-in-Split-clause-visited : goal.returns-in-Split-clause-visited
returns-in-Split-clause-visited c =
    let a = c.args in
    let v = a.self.now in
    (splits_with (lent_trees a.trees.now) (edge_of v.within.edge) v.within.radius v.counting a.at (boxes_of a.boxes.now.min a.boxes.now.max) c.in-Split.is c.choose.ensures, tally_examined _ _ _ _ _ c.visited-self.ensures)

pub returns-in-Split-clause-fewer : goal.returns-in-Split-clause-fewer
returns-in-Split-clause-fewer c =
    let u = c.requires.under in
    omega (arith, unvisited _ _ _ _ c.requires.accepts _ _ u.1.0 u.1.1 u.2, ap (λ (t : Totals). t.visits) c.visited-self.ensures.1)
