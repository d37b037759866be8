-- What the public calls answer and leave in the rooms: the answer of the table, for each value of the Result that the code answers. Assumes nothing.
use Rattle.std.specs.Prelude.{◌≡◌, List, [], Bool, ℕ, Float}
use Rattle.written.specs.Boxes.{Trees, Edge}
use Rattle.written.specs.Answers.{PairRooms, pairs_call, counts_call, NearRooms, near_room_ok, nearest_call}
use Rattle.steps.specs.Lent.{stemless, rooms_of}
use Rattle.nearest.specs.Lent.{near_rooms_of}
use Rattle.join.specs.Answering.{Held, answer_of}

-- a call's answer, with the rooms as it leaves them
pub record Result (Rooms : Type 0) : Type 0 where
  pub answer : Held
  pub rooms : Rooms

abbrev pub with_rooms : Held → (lefts rights : List ℕ) → (distances : List Float) → Result PairRooms
with_rooms a lefts rights distances = record { answer = a; rooms = rooms_of lefts rights distances }

abbrev pub with_near_rooms : Held → (items : List ℕ) → (distances : List Float) → Result NearRooms
with_near_rooms a items distances = record { answer = a; rooms = near_rooms_of items distances }

-- rule 9 of nearest, where only the items and one room play a part
abbrev pub room_for : (litems ritems : List ℕ) → (distances : List Float) → Bool
room_for litems ritems distances = near_room_ok (stemless 0 [] litems [] [] ritems []) (near_rooms_of [] distances)

-- what a call for pairs promises, a call for counts, and a call for nearest
abbrev pub PairsTold : Trees → Edge → Float → PairRooms → Result PairRooms → Type 0
PairsTold j edge radius b r = (answer_of r.answer, r.rooms) ≡ pairs_call j edge radius b

abbrev pub CountsTold : Trees → Edge → Float → Held → Type 0
CountsTold j edge radius a = answer_of a ≡ counts_call j edge radius

abbrev pub NearestTold : Trees → NearRooms → Result NearRooms → Type 0
NearestTold j b r = (answer_of r.answer, r.rooms) ≡ nearest_call j b
