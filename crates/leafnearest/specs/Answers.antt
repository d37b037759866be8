-- A stretch of nearest answers as the code is lent it: items and distances (document 01, "Nearest"). Assumes nothing.
use Rattle.std.specs.Prelude.{◌≡◌, List, [], ◌∷◌, Bool, ℕ, ◌-◌, length, get_or, Float}
use Rattle.std.specs.Float.{nan}
use Rattle.std.specs.Float.Ieee.{lt}
use Rattle.written.specs.Boxes.{Trees}
use Rattle.written.specs.Nearest.{Neighbour, nearer, improve, at_each, offer}

abbrev pub answers : List ℕ → List Float → List Neighbour
answers [] distances = []
answers (x ∷ items) [] = []
answers (x ∷ items) (d ∷ distances) = record { item = x; distance = d } ∷ answers items distances

-- what is lent has an answer for each left place from la up to le
abbrev pub Answering : (la le : ℕ) → List ℕ → List Float → Type 0
Answering la le items distances = (length items ≡ le - la) × (length distances ≡ le - la)

-- the i-th of new distances is strictly smaller
abbrev pub closer : (ℕ → Float) → List Float → ℕ → Bool
closer new old i = lt (new i) (get_or old i nan)

-- one right item at these distances, against each answer of a tile
abbrev pub offered : (ℕ → Float) → (item : ℕ) → List Neighbour → List Neighbour
offered new item = at_each (λ i old. nearer (record { item = item; distance = new i }) old) 0

-- the answers of the left places from la on, each against the right places from rs up to rend, in place order
abbrev pub improved : Trees → (la rs rend : ℕ) → List Neighbour → List Neighbour
improved j la rs rend = at_each (λ p. improve (offer j p) rs (rend - rs)) la
