-- None of the places so far gains, until one does. Assumes nothing.
use mathlib.Core.Path.{◌≡◌}
use mathlib.Core.Bool.{false}
use Rattle.metric.specs.Flat.{boxes_of}
use Rattle.held.specs.Apart.{gains_at, one_of}
use Rattle.held.proofs.gains.gains.Given as goal

abbrev pub invariant-loop-i : goal.invariant-loop-i
invariant-loop-i l = one_of (gains_at l.k l.left.coords.now l.left.n l.ls (boxes_of l.boxes.min l.boxes.max) l.dists) l.i ≡ false
