-- The first i bytes are put.
use Rattle.std.proofs.Common.{◌≡◌, ◌+◌, take}
use Rattle.printing.specs.Puts.{Puts}
use Rattle.printing.proofs.page.Page.text.Given as goal

abbrev pub invariant-loop-i : goal.invariant-loop-i
invariant-loop-i l =
    let before = l.initial.self in record {
      same_buffer : l.self.out.ghost_name ≡ before.out.ghost_name;
      place : l.self.at ≡ before.at;
      put : Puts before.out.now before.at (take l.i l.s) l.self.out.now (before.at + l.i);
    }
