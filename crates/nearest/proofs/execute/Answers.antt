-- The cases of the call: a tree without points; else the first places of both rooms are cleared and the walk goes over them. Assumes nothing.
use mathlib.Core.Path.{sym, ◌∙◌}
use Rattle.std.proofs.lemmas.Bool.{eqb-true, eqb-false}
use Rattle.std.specs.Prelude.{◌≢◌}
use Prim.Native.Nat.{◌≤◌}
use lib.ListN.{length}
use Rattle.written.specs.Boxes.{Trees}
use Rattle.cursor.specs.Lent.{lent_trees}
use Rattle.nearest.proofs.Whole.{left_empty, right_empty, nothing_done, room_for_all, call_done}
use Rattle.nearest.proofs.execute.Goals as goal
use Rattle.nearest.proofs.execute.Goals.{then-n-eq0-via-then-n-eq0, then-n-eq0-via-else-n-eq0+then-is_empty}

pub returns-then-n-eq0 : goal.returns-then-n-eq0
returns-then-n-eq0 c =
    let trees : Trees = lent_trees c.args.trees.now in
    elim c.then-n-eq0.branch [
      | then-n-eq0-via-then-n-eq0 w ↦ nothing_done trees (left_empty trees w.if-n-eq0.true) c.none.result c.args.items.now c.args.dists.now c.none.ensures.0 c.none.ensures.1
      | then-n-eq0-via-else-n-eq0+then-is_empty w ↦ nothing_done trees (right_empty trees (eqb-true _ 0 (sym w.is_empty.ensures ∙ w.if-is_empty.true))) c.none.result c.args.items.now c.args.dists.now c.none.ensures.0 c.none.ensures.1
    ]

pub returns : goal.returns
returns c =
    let a = c.args in
    let t = a.trees.now in
    let trees : Trees = lent_trees t in
    let some : length t.right.items.now ≢ 0 = eqb-false _ 0 (sym c.is_empty.ensures ∙ c.if-is_empty.false) in
    let room : (length t.left.items.now ≤ length a.items.now) × (length t.left.items.now ≤ length a.dists.now) = room_for_all trees c.if-n-eq0.false some a.items.now a.dists.now c.requires.rooms_agree c.requires.room_ok in
    let z = c.clear in
    call_done trees c.if-n-eq0.false some a.items.now z.new.items a.dists.now z.new.dists room c.items-1.given.0 c.dists-1.given.0 c.requires.accepts c.walk-tally.new.items c.walk-tally.new.dists c.walk-tally.result c.items-2-1.given.0 c.dists-2-1.given.0 c.walk-tally.ensures
