-- The first exponent that reaches m is the levels over m. Assumes nothing.
use mathlib.Core.Path.{◌≡◌, ◌∙◌}
use native.Mathlib.Nat.{one-mul}
use native.Mathlib.Omega.{arith}
use lib.Dec.{lit<}
use lib.Pow.{shl_exact}
use Rattle.cursor.proofs.Laws.{levels_is}
use Rattle.cursor.proofs.node.levels.Goals as goal

pub returns-then-m-r : goal.returns-then-m-r
returns-then-m-r c =
    let r = c.loop-r.r in
    levels_is c.args.m r (rw (← shl_exact {a = 1} 1 r 32 (lit< tt) (omega arith) ∙ one-mul _) c.if-m-r.true) c.loop-r.invariant

pub returns : goal.returns
returns c =
    let e : c.loop-r.r ≡ 12 = omega arith in
    levels_is c.args.m 12 (omega arith) (λ i h. c.loop-r.invariant i (omega arith))
