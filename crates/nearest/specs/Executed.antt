-- What a call leaves: the number of answers written, the rooms, and the totals, as document 01 has them for two accepted trees with room. Assumes nothing.
use Rattle.std.specs.Prelude.{List, ℕ, length, Float}
use Rattle.written.specs.Boxes.{Trees}
use Rattle.written.specs.Nearest.{nearest}
use Rattle.written.specs.Totals.{Totals, near_totals}
use Rattle.written.specs.Answers.{NearRooms, near_stored}
use Rattle.steps.specs.declared.tally.Tally.{Tally}
use Rattle.steps.specs.Counted.{totals_held}
use Rattle.nearest.specs.Lent.{near_rooms_of}

pub record Outcome : Type 0 where
  pub written : ℕ
  pub rooms : NearRooms
  pub totals : Totals

abbrev pub outcome_of : Tally → (items : List ℕ) → (distances : List Float) → Outcome
outcome_of t items distances = record { written = t.found; rooms = near_rooms_of items distances; totals = totals_held t }

-- an answer for each left place, none if a tree holds no points; beyond them the rooms stay untouched
abbrev pub executed : Trees → NearRooms → Outcome
executed j b = record { written = length (nearest j); rooms = near_stored (nearest j) b; totals = near_totals j }
