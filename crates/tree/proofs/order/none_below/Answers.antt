-- The chain goes through the points until one is below. Assumes nothing.
use Rattle.std.proofs.Common.{not, length, get_or, rules}
use Rattle.std.specs.Float.{nan}
use lib.Ieee.{lt}
use Rattle.tree.proofs.Every.{all_passed}
use Rattle.tree.proofs.order.none_below.Goals as goal

pub returns : goal.returns
returns c = all_passed (λ i. not (lt (get_or c.args.part.now i nan) c.args.pivot)) (length c.args.part.now) (search rules)
