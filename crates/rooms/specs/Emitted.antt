-- The passing places of a right tile in rising order, and the pairs that they make with one left point. Assumes nothing.
use Rattle.std.specs.Prelude.{◌≡◌, List, [], ◌∷◌, ◌++◌, map, Bool, true, cond, ℕ, zero, suc, ◌+◌, ◌^◌, ◌≤◌, ◌<◌, length, get_or, Float}
use Rattle.std.specs.Float.{nan}
use Rattle.written.specs.RadiusWalk.{Found}
use Rattle.rooms.specs.declared.Pair.{Pair}

-- the places below n that pass a test; all of them
unfoldable pub places_of : (ℕ → Bool) → ℕ → List ℕ
places_of test zero = []
places_of test (suc n) = places_of test n ++ cond (test n) (n ∷ []) []

abbrev pub places_below : ℕ → List ℕ
places_below n = places_of (λ j. true) n

-- the pair as data
abbrev pub found_of : Pair → Found
found_of x = record { left = x.left; right = x.right; distance = x.distance }

-- the left point's item with the j-th item of the tile, for each j of the list
abbrev pub pairs_at : (distances : List Float) → (left : ℕ) → (ritems : List ℕ) → List ℕ → List Found
pairs_at distances left ritems = map (λ j. record { left = left; right = get_or ritems j 0; distance = get_or distances j nan })

-- these are the m places, `at i j` saying that the i-th is j
pub record Placed (at : ℕ → ℕ → Type 0) (m : ℕ) (places : List ℕ) : Type 0 where
  pub many : length places ≡ m
  pub each : (i j : ℕ) → i < m → at i j → j ≡ get_or places i 0

-- m places of a tile, which can be counted with those found before
pub record Emits (places : List ℕ) (m : ℕ) (ritems : List ℕ) (found : ℕ) : Type 0 where
  pub many : length places ≡ m
  pub few : m ≤ 32
  pub in_tile : (i : ℕ) → i < m → get_or places i 0 < length ritems
  pub tile_small : length ritems ≤ 32
  pub countable : found + m ≤ 2 ^ 63
