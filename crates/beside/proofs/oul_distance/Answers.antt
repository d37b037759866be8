-- The tests of both places decide; where they pass, the places are held. Assumes nothing.
use lib.Ieee.{of_bits}
use Rattle.std.proofs.Common.{refl, sym, ◌∙◌}
use Rattle.beside.proofs.oul_distance.Goals as goal
use Rattle.beside.proofs.oul_distance.Goals.{then-not-place_ok-via-then-not-place_ok, then-not-place_ok-via-else-not-place_ok+then-not-place_ok-2}

pub returns-then-not-place_ok : goal.returns-then-not-place_ok
unfolding of_bits
returns-then-not-place_ok c = elim c.then-not-place_ok.branch [
  | then-not-place_ok-via-then-not-place_ok w ↦ rw (sym c.place_ok.ensures ∙ w.if-not-place_ok.true) refl
  | then-not-place_ok-via-else-not-place_ok+then-not-place_ok-2 w ↦ rw (sym c.place_ok.ensures ∙ w.if-not-place_ok.false, sym w.place_ok-else-not-place_ok.ensures ∙ w.if-not-place_ok-2.true) refl
]
