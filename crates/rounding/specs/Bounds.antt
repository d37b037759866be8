-- What two boxes say of the distances between their points (document 01, "The radius walk"): the box lower bound and the upper bound.
-- A box is its sides by axis, which may be infinite. Over either format. Definitions alone. Assumes nothing.
use Rattle.std.specs.Prelude.{ℕ, zero, suc, Bool, true, false, ◌&&◌, cond, Float}
use Rattle.std.specs.Float.{inf, Format}
use Rattle.std.specs.Float.Ieee.{lt}
use Rattle.std.specs.Float.Ieee.Scale.{finite}
use Rattle.rounding.specs.Distance.{Row, zero₊, dist1, summed}

-- the square of the gap if one side's max is below the other's min, else 0; the left max is tested first
unfoldable pub gap1 : Format → (min_l max_l min_r max_r : Float) → Float
unfolding dist1
gap1 f min_l max_l min_r max_r = cond (lt max_l min_r) (dist1 f max_l min_r) (cond (lt max_r min_l) (dist1 f max_r min_l) zero₊)

-- the larger of the two squared end differences
unfoldable pub reach1 : Format → (min_l max_l min_r max_r : Float) → Float
unfolding dist1
reach1 f min_l max_l min_r max_r = let a = dist1 f min_l max_r in let b = dist1 f max_l min_r in cond (lt b a) a b

-- all four sides are finite
abbrev pub bounded : (min_l max_l min_r max_r : Float) → Bool
bounded min_l max_l min_r max_r = finite min_l && finite max_l && finite min_r && finite max_r

-- a test passes on each of the axes 0 to K - 1
abbrev pub every_axis : (ℕ → Bool) → ℕ → Bool
every_axis test zero = true
every_axis test (suc k) = every_axis test k && test k

-- the lower bound: the gaps, summed from 0 in axis order
unfoldable pub lower : Format → (min_l max_l min_r max_r : Row) → ℕ → Float
unfolding summed gap1
lower f min_l max_l min_r max_r K = summed f (λ (d : ℕ). gap1 f (min_l d) (max_l d) (min_r d) (max_r d)) K

-- the upper bound: +inf unless all box sides are finite, else the reaches, summed from 0 in axis order
unfoldable pub upper : Format → (min_l max_l min_r max_r : Row) → ℕ → Float
unfolding summed reach1
upper f min_l max_l min_r max_r K =
    let reaches = summed f (λ (d : ℕ). reach1 f (min_l d) (max_l d) (min_r d) (max_r d)) K in
    cond (every_axis (λ (d : ℕ). bounded (min_l d) (max_l d) (min_r d) (max_r d)) K) reaches (inf false)
