-- The first n of the row are the places so far that pass; what is written after them does not count. Assumes nothing.
use mathlib.Core.Path.{◌≡◌}
use Prim.Native.Nat.{◌≤◌}
use lib.ListN.{length, take}
use Rattle.metric.specs.Edges.{edge_of}
use Rattle.leaf.specs.Sums.{row, passing, hits}
use Rattle.rooms.specs.Emitted.{places_of}
use Rattle.leafpairs.proofs.point.passing_places.Given as goal

abbrev pub invariant-loop-j : goal.invariant-loop-j
invariant-loop-j l = (l.len ≤ 32) × (l.len ≤ length l.places) × (l.n ≡ hits (passing (edge_of l.within.edge) l.within.radius (row l.dists)) l.j) × (take l.n l.places ≡ places_of (passing (edge_of l.within.edge) l.within.radius (row l.dists)) l.j)
