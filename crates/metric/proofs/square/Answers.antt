-- One axis of a distance, as it is defined. Assumes nothing.
use mathlib.Core.Path.{refl}
use Rattle.rounding.specs.Distance.{dist1}
use Rattle.metric.proofs.square.Goals as goal

pub returns : goal.returns
unfolding dist1
returns c = refl
