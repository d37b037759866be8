-- The sum so far is the distance over the axes so far. Assumes nothing.
use mathlib.Core.Path.{refl, ap₂}
use native.Mathlib.Numerals.{add-one}
use lib.Ieee.{add, binary64, of_bits}
use Rattle.rounding.specs.Distance.{distance}
use Rattle.metric.proofs.distance.Goals as goal

pub loop-d-init : goal.loop-d-init
unfolding distance of_bits
loop-d-init c = refl

pub loop-d-preserved : goal.loop-d-preserved
unfolding distance
loop-d-preserved c = rw (add-one c.loop-d.d) (ap₂ (add binary64) c.loop-d.invariant c.square-sum.ensures)
