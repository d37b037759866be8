-- The sum so far is the distance over the axes so far. Assumes nothing.
use mathlib.Core.Path.{◌≡◌, refl, ap, ap₂, ◌∙◌}
use native.Mathlib.Numerals.{add-one}
use lib.Ieee.{Float, add, binary64, of_bits}
use Rattle.rounding.specs.Distance.{dist1}
use Rattle.written.specs.Boxes.{lowered_to, sides}
use Rattle.metric.specs.Flat.{boxes_of}
use Rattle.metric.specs.Lent.{point_at}
use Rattle.held.specs.Apart.{apart, in_right_box}
use Rattle.held.proofs.gains.apart.Goals as goal

pub loop-d-init : goal.loop-d-init
unfolding apart of_bits
loop-d-init c = refl

pub loop-d-preserved : goal.loop-d-preserved
unfolding apart
loop-d-preserved c = let w = c.loop-d in
    let a = c.args in
    let x : Float = point_at a.left.now.coords.now a.left.now.n a.p w.d in
    let side : c.lowered-side.result ≡ in_right_box (boxes_of a.boxes.now.min a.boxes.now.max) (point_at a.left.now.coords.now a.left.now.n a.p) w.d =
    c.lowered-side.ensures ∙ ap (λ (v : Float). lowered_to v (sides a.boxes.now.max 4 w.d)) c.raised.ensures
    in
    rw (add-one w.d) (ap₂ (add binary64) w.invariant (c.square-sum.ensures ∙ ap (dist1 binary64 x) side))
