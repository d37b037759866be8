-- The sum so far is the distance over the axes so far. Assumes nothing.
use mathlib.Core.Path.{◌≡◌}
use Rattle.metric.specs.Flat.{boxes_of}
use Rattle.metric.specs.Lent.{point_at}
use Rattle.held.specs.Apart.{apart}
use Rattle.held.proofs.gains.apart.Given as goal

abbrev pub invariant-loop-d : goal.invariant-loop-d
invariant-loop-d l = l.sum ≡ apart l.d (boxes_of l.boxes.min l.boxes.max) (point_at l.left.coords.now l.left.n l.p)
