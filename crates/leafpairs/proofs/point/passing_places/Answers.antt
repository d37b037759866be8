-- The first n of the row are the places so far that pass; what is written after them does not count. Assumes nothing.
use mathlib.Core.Path.{refl}
use native.Mathlib.Omega.{arith}
use lib.ListN.{length-set}
use Rattle.metric.specs.Edges.{edge_of}
use Rattle.leaf.specs.Sums.{row, passing, hits}
use Rattle.leaf.proofs.Hits.{hits_next}
use Rattle.rooms.specs.Emitted.{places_of}
use Rattle.rooms.proofs.Places.{found_few, next_few, places_next}
use Rattle.leafpairs.proofs.point.passing_places.Goals as goal

pub loop-j-init : goal.loop-j-init
unfolding hits places_of
loop-j-init c = (c.requires.0, c.requires.1, refl, refl)

pub offset_bounds-places-n : goal.offset_bounds-places-n
offset_bounds-places-n c = omega (arith, found_few _ c.loop-j.j c.loop-j.invariant.2)

pub bounds-places-n : goal.bounds-places-n
bounds-places-n c = omega (arith, found_few _ c.loop-j.j c.loop-j.invariant.2)

pub overflow_add-n : goal.overflow_add-n
overflow_add-n c = omega (arith, next_few _ c.loop-j.j c.loop-j.invariant.2 c.passes.ensures)

pub loop-j-preserved : goal.loop-j-preserved
loop-j-preserved c = let u = c.loop-j in
    let a = c.args in
    let test = passing (edge_of a.within.edge) a.within.radius (row a.dists.now) in (
      u.invariant.0,
      simp length-set u.invariant.1,
      hits_next test u.j u.invariant.2 c.passes.ensures,
      places_next test u.places u.n u.j (omega (arith, found_few test u.j u.invariant.2)) c.passes.ensures u.invariant.3,
    )
