-- The square of a length, as it is defined. Assumes nothing.
use mathlib.Core.Path.{refl}
use Rattle.written.specs.Spacing.{radius_of}
use Rattle.join.proofs.spacing.radius_of.Goals as goal

pub returns : goal.returns
unfolding radius_of
returns c = refl
