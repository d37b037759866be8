-- The sum so far is the lower bound over the axes so far. Assumes nothing.
use mathlib.Core.Path.{refl, sym, ap₂, ◌∙◌}
use native.Mathlib.Numerals.{add-one}
use lib.Ieee.{add, binary64, of_bits}
use Rattle.rounding.specs.Bounds.{gap1}
use Rattle.written.specs.Boxes.{lower}
use Rattle.metric.proofs.Laws.{at_axis}
use Rattle.metric.proofs.boxes.Boxes.lower.Goals as goal

pub loop-d-init : goal.loop-d-init
unfolding lower of_bits
loop-d-init c = refl

pub loop-d-preserved : goal.loop-d-preserved
unfolding lower
loop-d-preserved c =
    let d = c.loop-d.d in
    let a = c.args in
    rw (add-one d) (ap₂ (add binary64) c.loop-d.invariant (c.gap-sum.ensures ∙ sym (at_axis (gap1 binary64) a.self.now.min a.self.now.max d)))
