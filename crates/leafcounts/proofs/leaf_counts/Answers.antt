-- The pairs of two leaves can be counted. Assumes nothing.
use native.Mathlib.Omega.{arith}
use Rattle.metric.specs.Edges.{edge_of}
use Rattle.leaf.specs.Fits.{leaf_fits}
use Rattle.leafcounts.proofs.leaf_counts.Goals as goal

pub leaves-requires-clause-room : goal.leaves-requires-clause-room
leaves-requires-clause-room c = omega (arith, leaf_fits c.args.within.radius (edge_of c.args.within.edge) c.requires)
