-- What the exported functions are asked, as tests, and what they answer. Assumes nothing.
use Rattle.std.specs.Prelude.{List, map, Bool, ◌&&◌, ℕ, ◌*◌, length, leb, ltb, eqb, Float}
use Rattle.written.specs.Nearest.{Neighbour}

-- a place p of n points over K axes
abbrev pub place_ok : ℕ → List Float → ℕ → ℕ → Bool
place_ok K coords n p = leb K 4 && leb n 65536 && ltb p n && eqb (length coords) (K * n)

-- the places from `from` up to `to` of one tree; and a leaf of each of two trees
abbrev pub side_ok : ℕ → List ℕ → List Float → ℕ → ℕ → Bool
side_ok K items coords from to = leb (length items) 65536 && leb from to && leb to (length items) && eqb (length coords) (K * length items)

abbrev pub pair_ok : ℕ → List ℕ → List Float → ℕ → ℕ → List ℕ → List Float → ℕ → ℕ → Bool
pair_ok K litems lcoords ls lend ritems rcoords rs rend = leb 1 K && leb K 4 && side_ok K litems lcoords ls lend && side_ok K ritems rcoords rs rend

-- three lengths are one
abbrev pub alike_ok : ℕ → ℕ → ℕ → Bool
alike_ok a b c = eqb a b && eqb a c

-- an update's answer and what it leaves
pub record Updated : Type 0 where
  pub done : ℕ
  pub items : List ℕ
  pub distances : List Float

abbrev pub updated : ℕ → List ℕ → List Float → Updated
updated done items distances = record { done = done; items = items; distances = distances }

abbrev pub improved_to : ℕ → List Neighbour → Updated
improved_to done l = updated done (map (λ x. x.item) l) (map (λ x. x.distance) l)
