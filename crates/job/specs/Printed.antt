-- Document 01, "The job program": the text that a job prints. Definitions alone. Assumes nothing.
use Rattle.std.specs.Prelude.{List, [], ◌∷◌, ◌++◌, ℕ, zero, suc, replicate, Float}
use Rattle.std.specs.Float.Ieee.{of_bits}
use Rattle.std.specs.Float.{binary64}
use Rattle.written.specs.Boxes.{Trees, Edge, up_to, under}
use Rattle.written.specs.RadiusWalk.{Found, found}
use Rattle.written.specs.Nearest.{Neighbour, nearest}
use Rattle.written.specs.Answers.{Answer, PairRooms, NearRooms, pairs_call, counts_call, nearest_call}
use Rattle.printing.specs.Text.{pairs_word, count_word, nearest_word, refused_line, first_line, lines, totals_line}
use Rattle.reading.specs.Header.{mode, radius, trees, job_refusal}

-- room 1,024, for pairs and for nearest
abbrev pub blank : List ℕ
blank = replicate 1024 0

abbrev pub blank_distances : List Float
blank_distances = replicate 1024 (of_bits binary64 0)

abbrev pub pair_rooms : PairRooms
pair_rooms = record { lefts = blank; rights = blank; distances = blank_distances }

abbrev pub near_rooms : NearRooms
near_rooms = record { items = blank; distances = blank_distances }

-- an answer: the first line, a line for each pair, the totals; a refusal is one line and nothing more
abbrev pub text_by : (number : ℕ) → (kind : List ℕ) → Answer → List Found → List ℕ
text_by zero kind a l = first_line kind a.found ++ lines l ++ totals_line a.totals
text_by (suc n) kind a l = refused_line (suc n) a.side

abbrev pub answer_text : (kind : List ℕ) → Answer → List Found → List ℕ
answer_text kind a l = text_by a.number kind a l

-- nearest: each left item with its neighbour, in place order
unfoldable pub neighbours : List ℕ → List Neighbour → List Found
neighbours [] l = []
neighbours (i ∷ items) [] = []
neighbours (i ∷ items) (x ∷ l) = record { left = i; right = x.item; distance = x.distance } ∷ neighbours items l

module _ (j : Trees) where
  unfoldable pub pairs_text : Edge → Float → List ℕ
  unfolding found
  pairs_text edge r = answer_text pairs_word (pairs_call j edge r pair_rooms).0 (found j edge r)

  unfoldable pub counts_text : Edge → Float → List ℕ
  counts_text edge r = answer_text count_word (counts_call j edge r) []

  unfoldable pub nearest_text : List ℕ
  unfolding nearest neighbours
  nearest_text = answer_text nearest_word (nearest_call j near_rooms).0 (neighbours j.left.items (nearest j))

  -- 0 pairs up to, 1 pairs under, 2 count up to, 3 count under, 4 nearest
  abbrev pub join_text : (mode : ℕ) → Float → List ℕ
  join_text zero r = pairs_text up_to r
  join_text (suc zero) r = pairs_text under r
  join_text (suc (suc zero)) r = counts_text up_to r
  join_text (suc (suc (suc zero))) r = counts_text under r
  join_text (suc (suc (suc (suc n)))) r = nearest_text

-- refused under its number on side 0, else what the join answers
abbrev pub printed_by : (number : ℕ) → List ℕ → List ℕ
printed_by zero s = join_text (trees s) (mode s) (radius s)
printed_by (suc n) s = refused_line (suc n) 0

abbrev pub printed : List ℕ → List ℕ
printed s = printed_by (job_refusal s) s
