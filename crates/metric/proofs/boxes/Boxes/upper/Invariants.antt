-- So far each axis is bounded, and the sum is that of the reaches; the first axis that is not bounded settles the answer. Assumes nothing.
use mathlib.Core.Path.{◌≡◌}
use mathlib.Core.Bool.{true}
use lib.Ieee.{binary64}
use Rattle.rounding.specs.Bounds.{every_axis}
use Rattle.rounding.specs.Distance.{summed}
use Rattle.metric.proofs.Laws.{reach_at, bounded_at}
use Rattle.metric.proofs.boxes.Boxes.upper.Given as goal

abbrev pub invariant-loop-d : goal.invariant-loop-d
invariant-loop-d l = (every_axis (bounded_at l.self.min l.self.max) l.d ≡ true) × (l.sum ≡ summed binary64 (reach_at l.self.min l.self.max) l.d)
