-- 1.0 / 0.0 computes to +inf. Assumes nothing.
use lib.Ieee.{div, of_bits}
use Rattle.metric.proofs.Laws.{top_is}
use Rattle.metric.proofs.is_top.Goals as goal

pub returns : goal.returns
unfolding div of_bits
returns c = top_is c.args.x
