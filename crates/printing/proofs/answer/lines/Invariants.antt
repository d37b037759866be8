-- The lines of the first i places are put.
use Rattle.std.proofs.Common.{◌≡◌, ◌+◌, ◌*◌, ◌≤◌}
use Rattle.printing.specs.Text.{lines}
use Rattle.printing.specs.Rows.{rows}
use Rattle.printing.specs.Puts.{Puts}
use Rattle.printing.proofs.answer.lines.Given as goal

abbrev pub invariant-loop-i : goal.invariant-loop-i
invariant-loop-i l =
    let before = l.initial.page in record {
      same_buffer : l.page.out.ghost_name ≡ before.out.ghost_name;
      few : l.page.at ≤ l.at + 59 * l.i;
      put : Puts before.out.now l.at (lines (rows l.i l.lefts l.rights l.distances)) l.page.out.now l.page.at;
    }
