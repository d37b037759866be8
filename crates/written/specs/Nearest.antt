-- Document 01, "Nearest": the walk that carries the answers along, in left place order. Definitions alone. Assumes nothing.
use mathlib.Core.List.{List, [], ◌∷◌}
use Rattle.std.specs.Prelude.{Bool, ◌||◌, get_or, replicate, eqb, Float}
use Rattle.std.proofs.Math.Bool.{false, cond}
use Prim.Native.Nat.{ℕ, zero, suc}
use Rattle.std.specs.Float.{inf}
use Rattle.std.specs.Float.Ieee.{lt}
use Rattle.rounding.specs.Distance.{zero₊}
use Rattle.written.specs.Places.{inside}
use Rattle.written.specs.LentTree.{places, item}
use Rattle.written.specs.Boxes.{Trees, distance, lower, under, beyond}
use Rattle.written.specs.Visits.{Step, Run, Seen, carry}
use Rattle.written.specs.NodePairs.{NodePair, root_pair, stem_levels, no_leaf, split, visit, left_part, right_part}

-- an answer: a right item and its distance
pub record Neighbour : Type 0 where
  pub item : ℕ
  pub distance : Float

-- answers start at item 0 and +inf
abbrev pub unset : Neighbour
unset = record { item = 0; distance = inf false }

-- the answer of the left place p
abbrev pub answer_at : List Neighbour → ℕ → Neighbour
answer_at c p = get_or c p unset

-- only a strictly smaller distance replaces
abbrev pub nearer : Neighbour → Neighbour → Neighbour
nearer new old = cond (lt new.distance old.distance) new old

-- an answer against what n right places from a on offer, in place order
unfoldable pub improve : (ℕ → Neighbour) → ℕ → ℕ → Neighbour → Neighbour
improve offer a zero old = old
improve offer a (suc n) old = improve offer (suc a) n (nearer (offer a) old)

-- a change at each place of a list whose first place is k
unfoldable pub at_each : (ℕ → Neighbour → Neighbour) → ℕ → List Neighbour → List Neighbour
at_each change k [] = []
at_each change k (y ∷ ys) = change k y ∷ at_each change (suc k) ys

-- the largest distance now held at n places from a on, m where none is larger
unfoldable pub largest : List Neighbour → ℕ → ℕ → Float → Float
largest c a zero m = m
largest c a (suc n) m = let x = (answer_at c a).distance in largest c (suc a) n (cond (lt m x) x m)

module _ (j : Trees) where
  -- what measuring p against q offers
  unfoldable pub offer : ℕ → ℕ → Neighbour
  unfolding distance
  offer p q = record { item = item j.right q; distance = distance j p q }

  -- a leaf pair changes the answers of its left leaf's stretch, and no others
  unfoldable pub update : List Neighbour → NodePair → List Neighbour
  unfolding at_each improve offer
  update c s =
      let change : ℕ → Neighbour → Neighbour = λ p old. cond (inside p (left_part j s)) (improve (offer p) (right_part j s).from (right_part j s).size old) old in
      at_each change 0 c

  -- the largest distance now held in the left span, 0 if it holds no points
  abbrev pub farthest : List Neighbour → NodePair → Float
  farthest c s = largest c (left_part j s).from (left_part j s).size zero₊

  -- ruled out if a side spans no leaf, or the bound is not below the largest distance now held
  abbrev pub near_ruled_out : List Neighbour → NodePair → Bool
  near_ruled_out c s = no_leaf s || beyond under (farthest c s) (lower j.axes s.boxes)

  unfoldable pub near_step : List Neighbour → NodePair → Step NodePair
  unfolding split lower beyond largest
  near_step c s = visit j (near_ruled_out c s) false s

  -- the visits, the far half before the near one, and the answers at their end
  unfoldable pub near_walk : Run (Seen (List Neighbour) NodePair) × List Neighbour
  unfolding near_step update
  near_walk = carry near_step update (stem_levels j) (replicate (places j.left) unset) (root_pair j)

  -- a tree holds no points
  abbrev pub no_points : Bool
  no_points = eqb (places j.left) 0 || eqb (places j.right) 0

  -- the answers, in left place order; none if a tree holds no points
  unfoldable pub nearest : List Neighbour
  unfolding near_walk
  nearest = let answers = near_walk.1 in cond no_points [] answers
