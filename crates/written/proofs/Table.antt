-- The form of the example tables: what is asked of which trees, and all that is to be answered. Definitions alone. Assumes nothing.
use Rattle.std.specs.Prelude.{◌≡◌, List, [], ◌∷◌, map, ℕ, replicate, pos, neg_ℤ, Float}
use Rattle.std.specs.Float.{nan, binary64}
use Rattle.std.specs.Float.Ieee.{of_int}
use Rattle.written.specs.Boxes.{Trees, Edge}
use Rattle.written.specs.RadiusWalk.{Found, count}
use Rattle.written.specs.Nearest.{Neighbour}
use Rattle.written.specs.Totals.{Totals, walk_totals}
use Rattle.written.specs.Check.{refusal}
use Rattle.written.specs.Answers.{Answer, answered, refused, PairRooms, pairs_call, pairs_in, counts_call, NearRooms, nearest_call, nearest_in}

-- ---- what is asked

-- a call, and how many places its output buffers have
pub data Ask : Type 0 where
  pairs : Trees → Edge → Float → (room : ℕ) → Ask
  uneven_pairs : Trees → Edge → Float → (lefts rights distances : ℕ) → Ask
  count_of : Trees → Edge → Float → Ask
  nearest_of : Trees → (room : ℕ) → Ask
  uneven_nearest : Trees → (items distances : ℕ) → Ask

-- what an untouched place of the buffers holds
abbrev pub blank_pair : Found
blank_pair = record { left = 777; right = 777; distance = nan }

abbrev pub blank_near : Neighbour
blank_near = record { item = 777; distance = nan }

-- ---- what is answered

-- the answer, and the output buffers place by place
pub record Outcome : Type 0 where
  pub answer : Answer
  pub pairs : List Found
  pub near : List Neighbour

abbrev pub pair_rows : List ℕ → List ℕ → List Float → List Found
pair_rows [] rs ds = []
pair_rows (l ∷ ls) [] ds = []
pair_rows (l ∷ ls) (r ∷ rs) [] = []
pair_rows (l ∷ ls) (r ∷ rs) (d ∷ ds) = record { left = l; right = r; distance = d } ∷ pair_rows ls rs ds

abbrev pub near_rows : List ℕ → List Float → List Neighbour
near_rows [] ds = []
near_rows (i ∷ is) [] = []
near_rows (i ∷ is) (d ∷ ds) = record { item = i; distance = d } ∷ near_rows is ds

abbrev pub of_pairs : Answer × PairRooms → Outcome
of_pairs x = record { answer = x.0; pairs = pair_rows x.1.lefts x.1.rights x.1.distances; near = [] }

abbrev pub of_nearest : Answer × NearRooms → Outcome
of_nearest x = record { answer = x.0; pairs = []; near = near_rows x.1.items x.1.distances }

abbrev pub pair_rooms : ℕ → ℕ → ℕ → PairRooms
pair_rooms ls rs ds = record { lefts = replicate ls blank_pair.left; rights = replicate rs blank_pair.right; distances = replicate ds blank_pair.distance }

abbrev pub near_rooms : ℕ → ℕ → NearRooms
near_rooms is ds = record { items = replicate is blank_near.item; distances = replicate ds blank_near.distance }

unfoldable pub outcome : Ask → Outcome
unfolding pairs_in nearest_in count walk_totals refusal
outcome (pairs j edge radius room) = of_pairs (pairs_call j edge radius (pair_rooms room room room))
outcome (uneven_pairs j edge radius ls rs ds) = of_pairs (pairs_call j edge radius (pair_rooms ls rs ds))
outcome (count_of j edge radius) = record { answer = counts_call j edge radius; pairs = []; near = [] }
outcome (nearest_of j room) = of_nearest (nearest_call j (near_rooms room room))
outcome (uneven_nearest j is ds) = of_nearest (nearest_call j (near_rooms is ds))

-- ---- a table

pub record Row : Type 0 where
  pub ask : Ask
  pub says : Outcome

-- each call answers what its row says
abbrev pub Holds : List Row → Type 0
Holds table = map (λ r. outcome r.ask) table ≡ map (λ r. r.says) table

-- a row in few words: found pairs, a count, nearest answers, or a refusal
abbrev pub totals : (visits measured ruled_out whole : ℕ) → Totals
totals visits measured ruled_out whole = record { visits = visits; measured = measured; ruled_out = ruled_out; whole = whole }

abbrev pub pair : ℕ → ℕ → Float → Found
pair left right distance = record { left = left; right = right; distance = distance }

abbrev pub near : ℕ → Float → Neighbour
near item distance = record { item = item; distance = distance }

abbrev pub pairs_row : Ask → (number found : ℕ) → Totals → List Found → Row
pairs_row ask number found walk buffers = record { ask = ask; says = record { answer = answered number found walk; pairs = buffers; near = [] } }

abbrev pub count_row : Ask → (found : ℕ) → Totals → Row
count_row ask found walk = record { ask = ask; says = record { answer = answered 0 found walk; pairs = []; near = [] } }

abbrev pub nearest_row : Ask → (found : ℕ) → Totals → List Neighbour → Row
nearest_row ask found walk buffers = record { ask = ask; says = record { answer = answered 0 found walk; pairs = []; near = buffers } }

-- a refusal that leaves its buffers untouched
abbrev pub refused_pairs : Ask → (number side : ℕ) → List Found → Row
refused_pairs ask number side buffers = record { ask = ask; says = record { answer = refused number side; pairs = buffers; near = [] } }

abbrev pub refused_nearest : Ask → (number side : ℕ) → List Neighbour → Row
refused_nearest ask number side buffers = record { ask = ask; says = record { answer = refused number side; pairs = []; near = buffers } }

-- whole numbers as coordinates
unfoldable pub num : ℕ → Float
unfolding of_int
num k = of_int binary64 (pos k)

unfoldable pub neg : ℕ → Float
unfolding of_int
neg k = of_int binary64 (neg_ℤ (pos k))
