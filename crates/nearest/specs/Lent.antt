-- The two rooms as the code is lent them. Assumes nothing.
use Rattle.std.specs.Prelude.{List, ℕ, Float}
use Rattle.written.specs.Answers.{NearRooms}

abbrev pub near_rooms_of : (items : List ℕ) → (distances : List Float) → NearRooms
near_rooms_of items distances = record { items = items; distances = distances }
