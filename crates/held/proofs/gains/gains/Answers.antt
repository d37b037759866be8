-- None of the places so far gains, until one does. Assumes nothing.
use mathlib.Core.Path.{◌≡◌, sym, ap, ◌∙◌}
use mathlib.Core.Bool.{Bool}
use Prim.Native.Nat.{ℕ}
use native.Mathlib.Omega.{arith}
use lib.ListN.{length, get_or}
use lib.Ieee.{Float, nan, lt}
use Rattle.metric.specs.Flat.{boxes_of}
use Rattle.held.specs.Apart.{gains_at}
use Rattle.held.proofs.OneOf.{one_is}
use Rattle.held.proofs.gains.gains.Goals as goal

pub returns-then-apart-held : goal.returns-then-apart-held
returns-then-apart-held c =
    let gaining : ℕ → Bool = let a = c.args in gains_at a.k a.left.now.coords.now a.left.now.n a.ls (boxes_of a.boxes.now.min a.boxes.now.max) a.dists.now in
    let tested : let i = c.loop-i.i in lt c.apart.result (get_or c.args.dists.now i nan) ≡ gaining i = ap (λ (x : Float). lt x (get_or c.args.dists.now c.loop-i.i nan)) c.apart.ensures in
    let w = c.loop-i in
    let n = length c.args.dists.now in
    sym (one_is gaining n w.i (omega arith) (sym tested ∙ c.if-apart-held.true))
