-- One place more holds one axis more, whichever way its sum began. Assumes nothing.
use mathlib.Core.Path.{◌≡◌, refl, ap₂, ◌∙◌}
use mathlib.Core.Bool.{cond, not}
use native.Mathlib.Nat.{le_refl}
use native.Mathlib.Numerals.{add-one}
use native.Mathlib.Omega.{arith}
use lib.ListN.{length-set, get_or}
use lib.Ieee.{nan, add, binary64, of_bits}
use Rattle.rounding.specs.Distance.{zero₊}
use Rattle.std.proofs.Common.{nat_eq}
use Rattle.std.proofs.lemmas.Bool.{ne_eqb}
use Rattle.leaf.proofs.Growing.{place_next, place_after}
use Rattle.leaf.proofs.axes.add_axis.Goals as goal
use Rattle.leaf.proofs.axes.add_axis.Goals.{then-this-ne0, else-this-ne0}

pub loop-j-preserved : goal.loop-j-preserved
unfolding of_bits
loop-j-preserved g c =
    let w = c.loop-j in
    let began : c.if-this-ne0.sum ≡ cond (not (nat_eq g.row.FIRST 0)) zero₊ (get_or c.args.sums.now w.j nan) = elim c.if-this-ne0.branch [
      | then-this-ne0 v ↦ v.sum-is ∙ rw (ne_eqb g.row.FIRST 0 v.if-this-ne0.true) refl
      | else-this-ne0 v ↦ v.sum-is ∙ w.invariant.2 w.j (le_refl w.j) ∙ rw v.if-this-ne0.false refl
    ] in
    (simp length-set w.invariant.0, rw (add-one w.j) (place_next w.sums w.j _ _ (omega arith) w.invariant.1 (ap₂ (add binary64) began c.square.ensures)), rw (add-one w.j) (place_after w.sums w.j _ c.args.sums.now w.invariant.2))
