-- So far each axis is bounded, and the sum is that of the reaches; the first axis that is not bounded settles the answer. Assumes nothing.
use mathlib.Core.Path.{◌≡◌, refl, sym, ap₂, ◌∙◌}
use mathlib.Core.Bool.{true, false}
use native.Mathlib.Omega.{arith}
use native.Mathlib.Numerals.{add-one}
use lib.Ieee.{add, div, binary64, of_bits}
use Rattle.rounding.specs.Bounds.{reach1, bounded}
use Rattle.rounding.specs.Distance.{summed}
use Rattle.metric.proofs.Laws.{at_axis, bounded_at, upper_closed, upper_open, fails, holds_next}
use Rattle.metric.proofs.boxes.Boxes.upper.Goals as goal

pub loop-d-init : goal.loop-d-init
unfolding summed of_bits
loop-d-init c = (refl, refl)

pub returns-then-not-bounded : goal.returns-then-not-bounded
unfolding div of_bits
returns-then-not-bounded c =
    let d = c.loop-d.d in
    let a = c.args in
    let test = bounded_at a.self.now.min a.self.now.max in
    let off : test d ≡ false = (sym (c.bounded.ensures ∙ sym (at_axis bounded a.self.now.min a.self.now.max d)) ∙ c.if-not-bounded.true) in
    sym (upper_open a.self.now.min a.self.now.max a.k (fails test a.k d c.loop-d-test.true off))

pub loop-d-preserved : goal.loop-d-preserved
unfolding summed
loop-d-preserved c =
    let d = c.loop-d.d in
    let a = c.args in
    let inv = c.loop-d.invariant in
    let test = bounded_at a.self.now.min a.self.now.max in
    let on : test d ≡ true = (sym (c.bounded.ensures ∙ sym (at_axis bounded a.self.now.min a.self.now.max d)) ∙ c.if-not-bounded.false) in (
      rw (add-one d) (holds_next test d inv.0 on),
      rw (add-one d) (ap₂ (add binary64) inv.1 (c.reach-sum.ensures ∙ sym (at_axis (reach1 binary64) a.self.now.min a.self.now.max d))),
    )

pub returns : goal.returns
returns c =
    let e : c.loop-d.d ≡ c.args.k = omega (arith, c.loop-d-test.false, c.loop-d.auto.d-end) in
    rw (← e) (c.loop-d.invariant.1 ∙ sym (upper_closed _ _ _ c.loop-d.invariant.0))
