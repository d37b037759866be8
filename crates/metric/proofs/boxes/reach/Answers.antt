-- The larger end by the definition's own test, each square being what `square` ensures. Assumes nothing.
use mathlib.Core.Path.{◌≡◌, sym, ap₂}
use mathlib.Core.Bool.{cond}
use lib.Ieee.{Float, lt, binary64}
use Rattle.rounding.specs.Distance.{dist1}
use Rattle.rounding.specs.Bounds.{reach1}
use Rattle.metric.proofs.boxes.reach.Goals as goal

reach1-is : (lmin lmax rmin rmax : Float) {a b : Float} → a ≡ dist1 binary64 lmin rmax → b ≡ dist1 binary64 lmax rmin → reach1 binary64 lmin lmax rmin rmax ≡ cond (lt b a) a b
unfolding reach1
reach1-is lmin lmax rmin rmax p q = ap₂ (λ (a b : Float). cond (lt b a) a b) (sym p) (sym q)

pub returns-then-a-b : goal.returns-then-a-b
returns-then-a-b c = rw (reach1-is _ _ _ _ c.square-a.ensures c.square-b.ensures, c.if-a-b.true)

pub returns-else-a-b : goal.returns-else-a-b
returns-else-a-b c = rw (reach1-is _ _ _ _ c.square-a.ensures c.square-b.ensures, c.if-a-b.false)
