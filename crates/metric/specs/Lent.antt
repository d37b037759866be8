-- A place of a lent column buffer (document 01, "A lent tree": axis d of point p at d*n + p). Assumes nothing.
use Rattle.std.specs.Prelude.{◌≡◌, List, ℕ, ◌+◌, ◌*◌, ◌<◌, length, get_or, Float}
use Rattle.std.specs.Float.{nan}
use Rattle.rounding.specs.Distance.{Row}

-- K columns of n numbers hold the place p
pub record HoldsPlace (K : ℕ) (coords : List Float) (n p : ℕ) : Type 0 where
  pub whole : length coords ≡ K * n
  pub inside : p < n

-- its coordinates, by axis
abbrev pub point_at : List Float → ℕ → ℕ → Row
point_at coords n p d = get_or coords (d * n + p) nan
