-- The pairs of the first places are stored as far as there is room. Assumes nothing.
use mathlib.Core.Path.{◌≡◌, sym}
use Prim.Native.Nat.{ℕ}
use native.Mathlib.Omega.{arith}
use lib.ListN.{get_or}
use lib.Ieee.{nan}
use Rattle.written.specs.RadiusWalk.{Found}
use Rattle.rooms.specs.Rooms.{filling}
use Rattle.rooms.proofs.Filled.{none_stored, stored_next, stored_all}
use Rattle.rooms.proofs.emit_places.Goals as goal

pub loop-i-init : goal.loop-i-init
loop-i-init g c = let a = c.args in
    (c.requires.same_rooms, c.fitting-fit.ensures, λ places h. none_stored a.found a.lout.now a.rout.now a.dout.now)

pub loop-i-preserved : goal.loop-i-preserved
loop-i-preserved g c = let u = c.loop-i in
    let a = c.args in
    let store = c.store in
    let pair : ℕ → Found = λ j. record { left = a.left; right = get_or a.ritems.now j 0; distance = get_or a.dists.now j nan } in (
      (omega (arith, u.invariant.0, store.auto), omega (arith, u.invariant.0, store.auto)),
      omega (arith, u.invariant.1, store.auto),
      λ places h. stored_next (filling a.found a.lout.now a.rout.now a.dout.now) pair places a.found u.i _ (omega (arith, h.many)) (sym (h.each u.i _ (omega arith) c.place-j.ensures)) (u.invariant.2 places h) store.ensures,
    )

pub returns : goal.returns
returns g c = let u = c.loop-i in
    let a = c.args in
    let e : u.i ≡ c.fitting-fit.result = omega arith in
    λ places h. stored_all _ _ places a.found a.m c.fitting-fit.result h.many (omega (arith, u.invariant.1)) u.invariant.0 (rw (← e) (u.invariant.2 places h))
