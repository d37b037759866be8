-- What the check of both trees answers: that both are accepted, or the refusal of the table. Assumes nothing.
use Rattle.std.specs.Prelude.{◌≡◌, ℕ, Result, Ok, Err}
use Rattle.written.specs.Check.{refusal}
use Rattle.written.specs.Boxes.{Trees}
use Rattle.written.specs.NodePairs.{tree_of}
use Rattle.written.specs.Answers.{refused, Accepts}
use Rattle.written.specs.Calls.{TreeRefused}
use Rattle.cursor.specs.declared.lent.Side.{Side}
use Rattle.cursor.specs.Held.{side_of}
use Rattle.tree.specs.declared.Rule.{Rule}
use Rattle.tree.specs.Told.{told}
use Rattle.join.specs.declared.answer.Refusal.{Refusal}
use Rattle.join.specs.declared.answer.Refusal.TheVariants.{Tree}
use Rattle.join.specs.Answering.{answer_of}

-- of one side: what the tree's own check says
pub data SideTold (j : Trees) (side : Side) : Result Unit Refusal → Type 0 where
  side_kept : refusal j.axes (tree_of j (side_of side)) ≡ 0 → SideTold j side (Ok tt)
  side_broken : (rule : Rule) → told (Err rule) ≡ refusal j.axes (tree_of j (side_of side)) → SideTold j side (Err (Tree side rule))

-- of both
pub data CheckTold (j : Trees) : Result Unit Refusal → Type 0 where
  both_kept : Accepts j → CheckTold j (Ok tt)
  one_broken : (r : Refusal) (n s : ℕ) → answer_of (Err r) ≡ refused n s → TreeRefused j n s → CheckTold j (Err r)
