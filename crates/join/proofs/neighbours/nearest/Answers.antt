-- Each early return is a refusal of the table; after them both trees are accepted, the rooms agree and there is room, and answer and rooms are the walk's. Assumes nothing.
use mathlib.Core.Path.{refl, ap₂}
use Rattle.std.specs.Prelude.{Ok, Err}
use Rattle.written.specs.Answers.{answered}
use Rattle.cursor.specs.Lent.{lent_trees}
use Rattle.join.specs.declared.answer.Refusal.TheVariants.{Rooms, Room}
use Rattle.nearest.specs.Lent.{near_rooms_of}
use Rattle.join.proofs.Outcomes.{both_accepted, nearest_checked, near_rooms_refused, near_room_refused, nearest_told}
use Rattle.std.proofs.lemmas.Result.{err_from_is_err_and}
use Rattle.std.proofs.Common.{sym, ◌∙◌}
use Rattle.join.proofs.neighbours.nearest.Goals as goal

pub returns-in_err-accepted : goal.returns-in_err-accepted
returns-in_err-accepted c =
    let p = err_from_is_err_and c.from_residual.result c.from_residual.ensures.1 in
    rw (p.1, p.2) (nearest_checked _ _ _ c.in_err-accepted.ensures)

pub returns-then-not-rooms_agree : goal.returns-then-not-rooms_agree
returns-then-not-rooms_agree c =
    let a = c.args in
    near_rooms_refused (lent_trees a.trees.now) (near_rooms_of a.items.now a.dists.now) (Err Rooms) refl (both_accepted _ c.in_ok-accepted.ensures) (sym c.rooms_agree.ensures ∙ c.if-not-rooms_agree.true)

pub returns-then-not-room_ok : goal.returns-then-not-room_ok
returns-then-not-room_ok c =
    let a = c.args in
    near_room_refused (lent_trees a.trees.now) (near_rooms_of a.items.now a.dists.now) (Err (Room c.none.result)) (ap₂ (answered 9) c.none.ensures.0 c.none.ensures.1) (both_accepted _ c.in_ok-accepted.ensures) (sym c.rooms_agree.ensures ∙ c.if-not-rooms_agree.false) (sym c.room_ok.ensures ∙ c.if-not-room_ok.true)

pub returns : goal.returns
returns c =
    let a = c.args in
    nearest_told (lent_trees a.trees.now) (near_rooms_of a.items.now a.dists.now) (Ok c.execute.result) refl (both_accepted _ c.in_ok-accepted.ensures) (sym c.rooms_agree.ensures ∙ c.if-not-rooms_agree.false) (sym c.room_ok.ensures ∙ c.if-not-room_ok.false) c.execute.ensures
