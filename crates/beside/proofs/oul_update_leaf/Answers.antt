-- The tests of the arguments and of the stretch decide; where they pass, the answers are the leaf's. Assumes nothing.
use mathlib.Core.Path.{◌≡◌, sym}
use Prim.Native.Nat.{◌-◌}
use native.Mathlib.Omega.{arith}
use lib.ListN.{length}
use Rattle.beside.proofs.Held.{alike_held}
use Rattle.beside.proofs.Laid.{laid_out}
use Rattle.std.proofs.Common.{◌∙◌}
use Rattle.beside.proofs.oul_update_leaf.Goals as goal

pub returns : goal.returns
returns c = let a = c.args in
    let fits = (sym c.alike.ensures ∙ c.if-not-alike.false) in
    let h : (a.lend - a.ls ≡ length a.items.now) × (a.lend - a.ls ≡ length a.dists.now) = alike_held fits in
    let t = c.points-trees.ensures in
    let improved = rw (t.axes, t.left.0, t.left.1, t.right.0, t.right.1) at c.update_leaf.ensures in
    rw ((sym c.pair_ok.ensures ∙ c.if-not-pair_ok.false), fits) (laid_out (omega (arith, h, c.update_leaf.auto)) improved)
