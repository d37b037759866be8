-- The joined text of a job whose trees are taken, and else the line of the first rule broken. Assumes nothing.
use Rattle.std.proofs.Common.{ℕ, ap, ◌∙◌, arith}
use Rattle.printing.specs.Text.{refused_line}
use Rattle.job.proofs.Deciding.{refused_printed, joined_printed, finished}
use Rattle.job.proofs.run.Goals as goal

pub returns-in-Ok : goal.returns-in-Ok
returns-in-Ok c =
    let r = c.joined.ensures in
    finished _ r.put (joined_printed _ c.in-Ok.ensures.0) r.bounded

pub returns-in-Err : goal.returns-in-Err
returns-in-Err c =
    let r = c.refused.ensures in
    let told = ap (λ (n : ℕ). refused_line n 0) c.number.ensures ∙ refused_printed _ _ c.in-Err.ensures in
    finished _ r.puts told (omega (arith, r.upper_bound))
