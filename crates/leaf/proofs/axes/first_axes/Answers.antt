-- With one axis the sums are 0 as they came. Else the axes so far are summed, and each tile is a part of its column. Assumes nothing.
use mathlib.Core.Path.{◌≡◌, refl, sym, ◌∙◌}
use Prim.Native.Nat.{◌-◌, ◌<◌}
use native.Mathlib.Omega.{arith}
use native.Mathlib.Numerals.{add-one}
use lib.ListN.{get_or}
use lib.Ieee.{nan}
use Rattle.leaf.proofs.Growing.{sum_none, first_axis, axis_next}
use Rattle.leaf.proofs.axes.first_axes.Goals as goal

pub returns-then-k-eq1 : goal.returns-then-k-eq1
returns-then-k-eq1 c =
    let one : c.args.k ≡ 1 = c.if-k-eq1.true in
    let fresh = c.requires.fresh one in
    record { holds = (λ j l. fresh j (omega (arith, c.requires.tile.narrow)) ∙ sym (rw one (sum_none c.args.one.now.coords.now c.args.one.now.n c.args.p c.args.many.now.coords.now c.args.many.now.n c.args.tile.from j))); fresh = λ e. fresh }

pub loop-d-init : goal.loop-d-init
loop-d-init c =
    let a = c.args in
    let more : 1 < a.k = omega arith in
    (more, c.requires.few_axes, c.requires.point_small, c.requires.point, c.requires.tile, first_axis a.one.now.coords.now a.one.now.n a.p a.many.now.coords.now a.many.now.n a.tile.from (a.tile.to - a.tile.from) c.add_axis.new.sums _ c.tile.ensures.value c.tile.ensures.len c.add_axis.ensures)

pub loop-d-preserved : goal.loop-d-preserved
loop-d-preserved c =
    let l = c.loop-d in
    let a = c.args in
    (l.invariant.0, l.invariant.1, l.invariant.2, l.invariant.3, l.invariant.4, rw (add-one l.d) (axis_next a.one.now.coords.now a.one.now.n a.p a.many.now.coords.now a.many.now.n a.tile.from l.d (a.tile.to - a.tile.from) (λ j. get_or l.sums j nan) _ c.add_axis-in-loop-d.new.sums _ l.invariant.5 refl c.tile-in-loop-d.ensures.value c.tile-in-loop-d.ensures.len c.add_axis-in-loop-d.ensures))
