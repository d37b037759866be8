-- What the tree's own check says, with its side. Assumes nothing.
use Rattle.std.proofs.Common.{sym, ap, ◌∙◌}
use Rattle.written.specs.Check.{refusal}
use Rattle.cursor.specs.Held.{side_of}
use Rattle.join.specs.Checking.{side_kept, side_broken}
use Rattle.join.proofs.Outcomes.{side_tree}
use Rattle.join.proofs.checking.side_accepted.Goals as goal

pub returns-in-Ok : goal.returns-in-Ok
returns-in-Ok c =
    let t = c.args.trees.now in
    side_kept (ap (refusal t.k) (sym (side_tree t (side_of c.args.side) c.on.ensures)) ∙ sym c.in-Ok.ensures)

pub returns-in-Err : goal.returns-in-Err
returns-in-Err c =
    let t = c.args.trees.now in
    side_broken c.in-Err.rule (c.in-Err.ensures ∙ ap (refusal t.k) (side_tree t (side_of c.args.side) c.on.ensures))
