-- What the exported calls return and leave in the six numbers and the rooms. Assumes nothing.
use Rattle.std.specs.Prelude.{◌≡◌, List, [], ◌∷◌, ℕ, Float}
use Rattle.written.specs.Boxes.{Trees, Edge}
use Rattle.written.specs.Answers.{Answer, PairRooms, pairs_call, counts_call, NearRooms, nearest_call}
use Rattle.steps.specs.Lent.{rooms_of}
use Rattle.nearest.specs.Lent.{near_rooms_of}
use Rattle.join.specs.declared.answer.Answer.{Answer as Held}

-- side, number found, visits, measured, ruled out, taken whole
abbrev pub numbers : Held → List ℕ
numbers a = let t = a.tally in a.side ∷ t.found ∷ t.visits ∷ t.measured ∷ t.ruled ∷ t.whole ∷ []

abbrev pub numbers_of : Answer → List ℕ
numbers_of a = a.side ∷ a.found ∷ a.totals.visits ∷ a.totals.measured ∷ a.totals.ruled_out ∷ a.totals.whole ∷ []

-- the number that is returned, the six, and the rooms
pub record Told : Type 0 where
  pub number : ℕ
  pub six : List ℕ

pub record ToldRooms (Rooms : Type 0) : Type 0 where
  pub told : Told
  pub rooms : Rooms

abbrev pub with_numbers : ℕ → List ℕ → Told
with_numbers number six = record { number = number; six = six }

abbrev pub with_numbers_and_rooms : ℕ → List ℕ → (lefts rights : List ℕ) → (distances : List Float) → ToldRooms PairRooms
with_numbers_and_rooms number six lefts rights distances = record { told = with_numbers number six; rooms = rooms_of lefts rights distances }

abbrev pub with_numbers_and_near_rooms : ℕ → List ℕ → (items : List ℕ) → (distances : List Float) → ToldRooms NearRooms
with_numbers_and_near_rooms number six items distances = record { told = with_numbers number six; rooms = near_rooms_of items distances }

abbrev pub told_of : Answer → Told
told_of a = record { number = a.number; six = numbers_of a }

-- the call's answer in numbers, and its rooms
abbrev pub InNumbers : {Rooms : Type 0} → Answer × Rooms → ToldRooms Rooms → Type 0
InNumbers call r = (r.told ≡ told_of call.0) × (r.rooms ≡ call.1)

abbrev pub PairsNumbers : Trees → Edge → Float → PairRooms → ToldRooms PairRooms → Type 0
PairsNumbers j edge radius b = InNumbers (pairs_call j edge radius b)

abbrev pub CountsNumbers : Trees → Edge → Float → Told → Type 0
CountsNumbers j edge radius r = r ≡ told_of (counts_call j edge radius)

abbrev pub NearestNumbers : Trees → NearRooms → ToldRooms NearRooms → Type 0
NearestNumbers j b = InNumbers (nearest_call j b)
