-- The chain goes through the coordinates until one is not finite. Assumes nothing.
use Rattle.std.proofs.Common.{rules, get_or}
use Rattle.std.specs.Float.{nan}
use lib.Ieee.Scale.{finite}
use Rattle.tree.proofs.Every.{all_passed}
use Rattle.tree.proofs.coords_ok.Goals as goal

pub returns : goal.returns
returns c = all_passed (λ i. finite (get_or c.args.tree.now.coords.now i nan)) _ (search rules)
