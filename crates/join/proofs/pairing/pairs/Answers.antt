-- Each early return is a refusal of the table; after them both trees are accepted and the rooms agree, and answer and rooms are the walk's. Assumes nothing.
use mathlib.Core.Path.{refl}
use native.Mathlib.Omega.{arith}
use Rattle.std.specs.Prelude.{Ok, Err}
use Rattle.metric.specs.Edges.{edge_of}
use Rattle.join.specs.declared.answer.Refusal.TheVariants.{Rooms, Room}
use Rattle.cursor.specs.Lent.{lent_trees}
use Rattle.steps.specs.Lent.{rooms_of}
use Rattle.join.proofs.Outcomes.{both_accepted, pairs_checked, rooms_refused, room_enough, room_short, pairs_told}
use Rattle.std.proofs.lemmas.Result.{err_from_is_err_and}
use Rattle.std.proofs.Common.{sym, ◌∙◌}
use Rattle.join.proofs.pairing.pairs.Goals as goal

pub returns-in_err-accepted : goal.returns-in_err-accepted
returns-in_err-accepted c =
    let p = err_from_is_err_and c.from_residual.result c.from_residual.ensures.1 in
    rw (p.1, p.2) (pairs_checked _ _ _ _ _ c.in_err-accepted.ensures)

pub returns-then-not-rooms_agree : goal.returns-then-not-rooms_agree
returns-then-not-rooms_agree c =
    let a = c.args in
    rooms_refused (lent_trees a.trees.now) (edge_of a.within.edge) a.within.radius (rooms_of a.lout.now a.rout.now a.dout.now) (Err Rooms) refl (both_accepted _ c.in_ok-accepted.ensures) (sym c.rooms_agree.ensures ∙ c.if-not-rooms_agree.true)

pub returns-then-tally-dout : goal.returns-then-tally-dout
returns-then-tally-dout c =
    let a = c.args in
    pairs_told (lent_trees a.trees.now) (edge_of a.within.edge) a.within.radius (rooms_of a.lout.now a.rout.now a.dout.now) (Ok c.walk-tally.result) refl (both_accepted _ c.in_ok-accepted.ensures) (sym c.rooms_agree.ensures ∙ c.if-not-rooms_agree.false) (room_enough _ _ (omega arith)) (omega arith) c.walk-tally.ensures

pub returns-else-tally-dout : goal.returns-else-tally-dout
returns-else-tally-dout c =
    let a = c.args in
    pairs_told (lent_trees a.trees.now) (edge_of a.within.edge) a.within.radius (rooms_of a.lout.now a.rout.now a.dout.now) (Err (Room c.walk-tally.result)) refl (both_accepted _ c.in_ok-accepted.ensures) (sym c.rooms_agree.ensures ∙ c.if-not-rooms_agree.false) (room_short _ _ (omega arith)) (omega arith) c.walk-tally.ensures
