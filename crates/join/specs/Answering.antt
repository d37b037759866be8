-- What a call answers, as the code holds it: the answer of the table, for what was counted and for each refusal. Assumes nothing.
use Rattle.std.specs.Prelude.{ℕ, Result, Ok, Err}
use Rattle.written.specs.Check.{number_of}
use Rattle.written.specs.Answers.{Answer, answered, refused}
use Rattle.cursor.specs.declared.lent.Side.{Side}
use Rattle.cursor.specs.declared.lent.Side.TheVariants.{Left, Right}
use Rattle.tree.specs.Told.{rule_of}
use Rattle.steps.specs.declared.tally.Tally.{Tally}
use Rattle.steps.specs.Counted.{totals_held}
use Rattle.join.specs.declared.answer.Refusal.{Refusal}
use Rattle.join.specs.declared.answer.Refusal.TheVariants.{Tree, Rooms, Room}
use Rattle.join.specs.declared.answer.Answer.{Answer as Flat}

-- 0 left, 1 right
abbrev pub side_number : Side → ℕ
side_number Left = 0
side_number Right = 1

abbrev pub refusal_number : Refusal → ℕ
refusal_number (Tree side rule) = number_of (rule_of rule)
refusal_number Rooms = 8
refusal_number (Room t) = 9

abbrev pub refusal_side : Refusal → ℕ
refusal_side (Tree side rule) = side_number side
refusal_side Rooms = 0
refusal_side (Room t) = 0

abbrev pub Held : Type 0
Held = Result Tally Refusal

-- the table's number, side, found number and totals
abbrev pub answer_of : Held → Answer
answer_of (Ok t) = answered 0 t.found (totals_held t)
answer_of (Err (Tree side rule)) = refused (number_of (rule_of rule)) (side_number side)
answer_of (Err Rooms) = refused 8 0
answer_of (Err (Room t)) = answered 9 t.found (totals_held t)

-- the same as numbers alone
abbrev pub flat_of : Flat → Answer
flat_of a = record { number = a.number; side = a.side; found = a.tally.found; totals = totals_held a.tally }
