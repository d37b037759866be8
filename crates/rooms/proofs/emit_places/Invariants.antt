-- The pairs of the first places are stored as far as there is room. Assumes nothing.
use mathlib.Core.Path.{◌≡◌}
use mathlib.Core.List.{List}
use Prim.Native.Nat.{ℕ, ◌+◌, ◌-◌, min}
use lib.ListN.{length, take}
use Rattle.rooms.specs.Rooms.{filling, puts, SameRooms}
use Rattle.rooms.specs.Emitted.{pairs_at, Placed}
use Rattle.rooms.proofs.emit_places.Given as goal

abbrev pub invariant-loop-i : goal.invariant-loop-i
invariant-loop-i g l =
    SameRooms l.lout l.rout l.dout × (l.fit ≡ min l.m (length l.lout - l.found)) × ((places : List ℕ) → Placed (goal.F-post g l.place) l.m places → filling (l.found + l.i) l.lout l.rout l.dout ≡ puts (filling l.found l.initial.lout l.initial.rout l.initial.dout) (take l.i (pairs_at l.dists l.left l.ritems places)))
