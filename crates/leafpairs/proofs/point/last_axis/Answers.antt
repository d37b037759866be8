-- The distances so far stand in their row, and so many of them pass. Assumes nothing.
use mathlib.Core.Path.{refl, ap}
use native.Mathlib.Nat.{not-suc-le-zero}
use native.Mathlib.Numerals.{add-one}
use native.Mathlib.Omega.{arith}
use lib.ListN.{length-set}
use lib.Ieee.{add, binary64}
use Rattle.leaf.specs.Sums.{hits}
use Rattle.leaf.proofs.Growing.{place_next}
use Rattle.leaf.proofs.Hits.{hits_next}
use Rattle.rooms.proofs.Places.{next_few}
use Rattle.leafpairs.proofs.point.last_axis.Goals as goal

pub loop-j-init : goal.loop-j-init
unfolding hits
loop-j-init c = (c.requires.0, c.requires.1, (λ j l. absurd (not-suc-le-zero l)), refl)

pub overflow_add-n : goal.overflow_add-n
overflow_add-n c = omega (arith, next_few _ c.loop-j.j c.loop-j.invariant.3 (rw c.square.ensures at c.passes-n.ensures))

pub loop-j-preserved : goal.loop-j-preserved
loop-j-preserved c = let u = c.loop-j in (
  u.invariant.0,
  simp length-set u.invariant.1,
  rw (add-one u.j) (place_next u.dists u.j _ _ (omega arith) u.invariant.2 (ap (add binary64 _) c.square.ensures)),
  hits_next _ u.j u.invariant.3 (rw c.square.ensures at c.passes-n.ensures),
)
