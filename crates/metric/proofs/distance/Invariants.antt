-- The sum so far is the distance over the axes so far. Assumes nothing.
use mathlib.Core.Path.{◌≡◌}
use lib.Ieee.{binary64}
use Rattle.rounding.specs.Distance.{distance}
use Rattle.metric.specs.Lent.{point_at}
use Rattle.metric.proofs.distance.Given as goal

abbrev pub invariant-loop-d : goal.invariant-loop-d
invariant-loop-d l = (l.sum ≡ distance binary64 (point_at l.lcoords l.ln l.p) (point_at l.rcoords l.rn l.q) l.d)
