-- A visit of the nearest walk: what it needs holds of node pairs of accepted trees, and it does what the walk does there. Assumes nothing.
use mathlib.Core.Path.{refl, ap}
use native.Mathlib.Omega.{arith}
use Rattle.written.specs.Check.{rule₁}
use Rattle.written.specs.NodePairs.{left_side}
use Rattle.written.specs.Totals.{Totals}
use Rattle.steps.proofs.Reading.{keeps, ordered_both}
use Rattle.nearvisit.specs.Held.{Held}
use Rattle.nearest.proofs.Turning.{tally_examined, leaves_here, held_here, box_here, splits_with, ended, few_examined, unvisited_yet}
use Rattle.nearest.proofs.AnswersVisitor.visit.Goals as goal

pub visited-self-requires : goal.visited-self-requires
visited-self-requires c =
    let u = c.requires.under in
    omega (arith, unvisited_yet _ c.requires.accepts _ _ u.1 u.2)

pub chosen-requires : goal.chosen-requires
chosen-requires c =
    let r = c.requires in
    let v = c.args.self.now in
    ((keeps _ r.accepts left_side rule₁).1, ordered_both _ r.accepts _ r.good.node, held_here _ r.accepts r.good v.items.now v.dists.now r.ready)

pub finish-self-requires : goal.finish-self-requires
finish-self-requires c =
    let r = c.requires in
    let u = r.under in
    record { leaves = leaves_here _ r.accepts r.good; answering = r.ready; few_pairs = few_examined _ r.accepts _ _ u.1 u.2 _ _ refl c.visited-self.ensures; box_no_farther = box_here _ r.accepts r.good }

pub returns-in-End-clause-visited : goal.returns-in-End-clause-visited
returns-in-End-clause-visited c =
    let r = c.requires in
    let v = c.args.self.now in
    ended _ r.accepts r.good v.items.now v.dists.now r.ready _ c.in-End.is c.chosen.ensures (tally_examined _ _ v.items.now v.dists.now c.visited-self.ensures) c.finish-self.ensures

pub returns-in-End-clause-fewer : goal.returns-in-End-clause-fewer
returns-in-End-clause-fewer c =
    let u = c.requires.under in
    omega (arith, unvisited_yet _ c.requires.accepts _ _ u.1 u.2, ap (λ (w : Held). w.totals.visits) c.finish-self.ensures, ap (λ (t : Totals). t.visits) c.visited-self.ensures.1)

pub returns-in-Split-clause-visited : goal.returns-in-Split-clause-visited
returns-in-Split-clause-visited c =
    let r = c.requires in
    let v = c.args.self.now in
    (splits_with _ r.accepts r.good v.items.now v.dists.now r.ready c.in-Split.is c.chosen.ensures, tally_examined _ _ v.items.now v.dists.now c.visited-self.ensures)

pub returns-in-Split-clause-fewer : goal.returns-in-Split-clause-fewer
returns-in-Split-clause-fewer c =
    let u = c.requires.under in
    omega (arith, unvisited_yet _ c.requires.accepts _ _ u.1 u.2, ap (λ (t : Totals). t.visits) c.visited-self.ensures.1)
