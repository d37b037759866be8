-- Document 01, "Spacing helper": a length becomes the radius r*r, rounded once, whatever it is. Definitions alone. Assumes nothing.
use Rattle.std.specs.Prelude.{Float}
use Rattle.std.specs.Float.Ieee.{mul}
use Rattle.std.specs.Float.{binary64}

-- `Float` has one NaN, so every NaN is one answer
unfoldable pub radius_of : Float → Float
unfolding mul
radius_of r = mul binary64 r r
