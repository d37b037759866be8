-- A refusal is one line; an answer is three texts, one after the other. Assumes nothing.
use Rattle.std.proofs.Common.{ap₂, ◌∙◌, arith}
use Rattle.printing.specs.Putting.{puts_as, puts_then}
use Rattle.printing.specs.Text.{refused_line}
use Rattle.job.proofs.Texts.{text_refused}
use Rattle.job.proofs.told.told.Goals as goal

pub returns-in-Ok : goal.returns-in-Ok
returns-in-Ok c = let h = c.head-body.ensures in
    let l = c.lines-end.ensures in
    let t = c.totals.ensures in
    rw c.in-Ok.is
    record {
      put = puts_then (puts_then h.puts l.puts) t.puts;
      bounded = omega (arith, h.upper_bound, l.upper_bound, t.upper_bound, c.requires.few);
    }

pub returns-in-Err : goal.returns-in-Err
returns-in-Err c = let t = c.refused.ensures in
    rw c.in-Err.is
    record {
      put = puts_as (ap₂ refused_line c.number.ensures c.side.ensures ∙ text_refused c.in-Err.refusal c.args.kind.now _) t.puts;
      bounded = omega (arith, t.upper_bound);
    }
