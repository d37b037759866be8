-- Counted so far: how many of the first i distances are smaller. Assumes nothing.
use mathlib.Core.Path.{◌≡◌}
use Prim.Native.Nat.{◌≤◌}
use lib.ListN.{length}
use Rattle.leaf.specs.Sums.{reached, hits}
use Rattle.leafnearest.specs.Answers.{closer}
use Rattle.leafnearest.proofs.improving.Given as goal

abbrev pub invariant-loop-i : goal.invariant-loop-i
invariant-loop-i l = (length l.column ≤ 32) × (length l.dists ≡ length l.column) × (l.n ≡ hits (closer (reached l.sums l.q l.column) l.dists) l.i)
