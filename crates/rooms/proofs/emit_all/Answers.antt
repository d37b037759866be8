-- The i-th of all places is i. Assumes nothing.
use mathlib.Core.Path.{◌≡◌, sym, ◌∙◌}
use lib.ListN.{length}
use Rattle.std.proofs.Common.{rules}
use Rattle.rooms.specs.Emitted.{places_below}
use Rattle.rooms.proofs.Places.{below_at}
use Rattle.rooms.proofs.emit_all.Goals as goal

pub returns : goal.returns
returns c = let n = length c.args.ritems.now in
    c.emit_places.ensures (places_below n) (record { many = c.requires.emits.many; each = λ i j h e. let same : j ≡ i = search rules in same ∙ sym (below_at n i h) })
