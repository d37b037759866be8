-- The code's tests are the definition's, in its order. Assumes nothing.
use lib.Ieee.{of_bits}
use Rattle.rounding.specs.Bounds.{gap1}
use Rattle.metric.proofs.boxes.gap.Goals as goal

pub returns-then-lmax-rmin : goal.returns-then-lmax-rmin
unfolding gap1
returns-then-lmax-rmin c = simp (c.if-lmax-rmin.true, c.square.ensures)

pub returns-then-rmax-lmin : goal.returns-then-rmax-lmin
unfolding gap1
returns-then-rmax-lmin c = simp (c.if-lmax-rmin.false, c.if-rmax-lmin.true, c.square-then-rmax-lmin.ensures)

pub returns-else-rmax-lmin : goal.returns-else-rmax-lmin
unfolding gap1 of_bits
returns-else-rmax-lmin c = simp (c.if-lmax-rmin.false, c.if-rmax-lmin.false)
