-- The distances so far stand in their row, and so many of them pass. Assumes nothing.
use mathlib.Core.Path.{◌≡◌}
use Prim.Native.Nat.{◌≤◌}
use lib.ListN.{length}
use Rattle.metric.specs.Edges.{edge_of}
use Rattle.leaf.specs.Sums.{Holds, reached, passing, hits}
use Rattle.leafpairs.proofs.point.last_axis.Given as goal

abbrev pub invariant-loop-j : goal.invariant-loop-j
invariant-loop-j l = (length l.column ≤ 32) × (length l.column ≤ length l.dists) × Holds l.dists l.j (reached l.sums l.q l.column) × (l.n ≡ hits (passing (edge_of l.within.edge) l.within.radius (reached l.sums l.q l.column)) l.j)
