-- Document 01, "The radius walk": what a node pair is ruled out by and taken whole by, the walk for pairs and for counts, what it finds and what it counts.
-- Definitions alone. Assumes nothing.
use Rattle.std.specs.Prelude.{List, [], ◌∷◌, Bool, true, false, ◌&&◌, ◌||◌, ℕ, length, Float}
use Rattle.written.specs.Places.{cross}
use Rattle.written.specs.LentTree.{item}
use Rattle.written.specs.Boxes.{Trees, distance, lower, upper, Edge, passes, beyond}
use Rattle.written.specs.Visits.{Fate, measured, ruled, whole, Step, Run, run, sum, gather}
use Rattle.written.specs.NodePairs.{NodePair, root_pair, stem_levels, left_part, right_part, area, all_places, no_leaf, split, visit}
use Rattle.written.specs.Tiles.{by_tiles}

pub record Found : Type 0 where
  pub left : ℕ
  pub right : ℕ
  pub distance : Float

abbrev pub keep_if : Bool → Found → List Found
keep_if true x = x ∷ []
keep_if false x = []

-- what a visit finds, `leaf` being what it finds where it is measured; and how many, `n` being all its pairs
abbrev pub kept : List Found → Fate → List Found
kept leaf measured = leaf
kept leaf ruled = []
kept leaf whole = leaf

abbrev pub counted : ℕ → ℕ → Fate → ℕ
counted leaf n measured = leaf
counted leaf n ruled = 0
counted leaf n whole = n

module _ (j : Trees) (edge : Edge) (radius : Float) where
  -- a found pair is two item numbers and one distance
  abbrev pub pair_of : ℕ → ℕ → Found
  pair_of p q = record { left = item j.left p; right = item j.right q; distance = distance j p q }

  abbrev pub passing : ℕ → ℕ → Bool
  passing p q = passes edge radius (distance j p q)

  -- what the join keeps of two places
  unfoldable pub keep : ℕ → ℕ → List Found
  unfolding distance passes
  keep p q = keep_if (passing p q) (pair_of p q)

  -- all-against-all, in place order
  abbrev pub all_against_all : List Found
  all_against_all = cross keep (all_places j.left) (all_places j.right)

  abbrev pub ruled_out : NodePair → Bool
  ruled_out s = no_leaf s || beyond edge radius (lower j.axes s.boxes)

  -- counting only: the upper bound passes
  abbrev pub taken_whole : Bool → NodePair → Bool
  taken_whole counting s = counting && passes edge radius (upper j.axes s.boxes)

  unfoldable pub step : Bool → NodePair → Step NodePair
  unfolding split lower upper passes beyond
  step counting s = visit j (ruled_out s) (taken_whole counting s) s

  -- the visits, for pairs (false) and for counts (true)
  unfoldable pub walk : Bool → Run NodePair
  unfolding step
  walk counting = run (step counting) (stem_levels j) (root_pair j)

  -- what a leaf pair finds, in its own order
  unfoldable pub leaf_pair : NodePair → List Found
  unfolding by_tiles keep
  leaf_pair s = by_tiles keep (left_part j s) (right_part j s)

  -- the list found, and the count
  unfoldable pub found : List Found
  unfolding walk gather leaf_pair
  found = gather (λ s k. kept (leaf_pair s) k) (walk false)

  unfoldable pub count : ℕ
  unfolding walk sum leaf_pair
  count = sum (λ s k. counted (length (leaf_pair s)) (area j s) k) (walk true)
