-- 1.0 / 0.0 and -1.0 / 0.0 compute to the infinities. Assumes nothing.
use mathlib.Core.Path.{refl}
use lib.Ieee.{div, of_bits, neg}
use Rattle.metric.proofs.boxes.Boxes.everywhere.Goals as goal

pub returns : goal.returns
unfolding div of_bits neg
returns c = refl
