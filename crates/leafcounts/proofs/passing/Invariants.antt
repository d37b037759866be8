-- The number so far is that of the places so far that pass. Assumes nothing.
use mathlib.Core.Path.{◌≡◌}
use Rattle.metric.specs.Edges.{edge_of}
use Rattle.leaf.specs.Sums.{hits, passing, reached}
use Rattle.leafcounts.proofs.passing.Given as goal

abbrev pub invariant-loop-j : goal.invariant-loop-j
invariant-loop-j l = l.n ≡ hits (passing (edge_of l.within.edge) l.within.radius (reached l.sums l.q l.column)) l.j
