-- Only NaN differs from itself. Assumes nothing.
use Rattle.std.proofs.Common.{sym, ◌∙◌}
use lib.Ieee.{of_bits}
use Rattle.tree.proofs.Floats.{nan_no_pivot, bottom_is}
use Rattle.tree.proofs.pivots.no_pivot.Goals as goal

pub returns-then-x : goal.returns-then-x
returns-then-x c = c.if-x.true ∙ sym (nan_no_pivot c.args.x c.if-x.true)

pub returns-else-x : goal.returns-else-x
unfolding of_bits
returns-else-x c = bottom_is c.args.x c.if-x.false
