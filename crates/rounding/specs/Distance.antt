-- The squared distance of two points as the machine computes it (document 01, "Port order" 1): difference, square, sum in axis order, each operation rounded.
-- A point is its coordinates by axis. Over either format. Definitions alone. Assumes nothing.
use Rattle.std.specs.Prelude.{ℕ, zero, suc, false, pos, Float}
use Rattle.std.specs.Float.{fin, Format}
use Rattle.std.specs.Float.Ieee.{add, sub, mul}

-- a point's coordinates, or the sides of a box, by axis
abbrev pub Row : Type 0
Row = ℕ → Float

-- where each sum starts
abbrev pub zero₊ : Float
zero₊ = fin false 0 (pos 0)

-- one axis of a distance: the square of the difference
unfoldable pub dist1 : Format → Float → Float → Float
unfolding mul sub
dist1 f x y = mul f (sub f x y) (sub f x y)

-- parts 0 to K - 1, summed from +0 in that order
unfoldable pub summed : Format → (ℕ → Float) → ℕ → Float
unfolding add
summed f part zero = zero₊
summed f part (suc k) = add f (summed f part k) (part k)

-- the squared distance of two points over K axes
unfoldable pub distance : Format → Row → Row → ℕ → Float
unfolding summed dist1
distance f x y K = summed f (λ (d : ℕ). dist1 f (x d) (y d)) K
