-- Document 01, "The radius walk": a leaf's places in tiles of at most 32, and the order inside a leaf pair.
-- Definitions alone. Assumes nothing.
use Rattle.std.specs.Prelude.{List, [], ◌∷◌, ◌++◌, ℕ, zero, suc, ◌+◌, ◌-◌, min}
use Rattle.written.specs.Places.{Part, cross}

-- n places from a on, in tiles; k is at least their number
unfoldable pub tiles_of : ℕ → ℕ → ℕ → List Part
tiles_of zero a n = []
tiles_of (suc k) a zero = []
tiles_of (suc k) a (suc n) = let m = min 32 (suc n) in record { from = a; size = m } ∷ tiles_of k (a + m) (suc n - m)

abbrev pub tiles : Part → List Part
tiles w = tiles_of w.size w.from w.size

module _ {X : Type 0} where
  unfoldable pub each : (Part → List X) → List Part → List X
  each g [] = []
  each g (w ∷ ws) = g w ++ each g ws

  -- left tiles, within each the right tiles, then left points, then right points
  unfoldable pub by_tiles : (ℕ → ℕ → List X) → Part → Part → List X
  unfolding each tiles_of
  by_tiles f l r = each (λ x. each (λ y. cross f x y) (tiles r)) (tiles l)
