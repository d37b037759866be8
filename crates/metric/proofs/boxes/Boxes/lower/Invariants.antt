-- The sum so far is the lower bound over the axes so far. Assumes nothing.
use mathlib.Core.Path.{◌≡◌}
use Rattle.written.specs.Boxes.{lower}
use Rattle.metric.specs.Flat.{boxes_of}
use Rattle.metric.proofs.boxes.Boxes.lower.Given as goal

abbrev pub invariant-loop-d : goal.invariant-loop-d
invariant-loop-d l = (l.sum ≡ lower l.d (boxes_of l.self.min l.self.max))
