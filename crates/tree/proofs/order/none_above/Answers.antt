-- The chain goes through the points until one is above. Assumes nothing.
use Rattle.std.proofs.Common.{not, length, get_or, rules}
use Rattle.std.specs.Float.{nan}
use lib.Ieee.{lt}
use Rattle.tree.proofs.Every.{all_passed}
use Rattle.tree.proofs.order.none_above.Goals as goal

pub returns : goal.returns
returns c = all_passed (λ i. not (lt c.args.pivot (get_or c.args.part.now i nan))) (length c.args.part.now) (search rules)
