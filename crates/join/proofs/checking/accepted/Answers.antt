-- The left tree's refusal comes first. Assumes nothing.
use Rattle.std.proofs.lemmas.Result.{err_from_is_err_and}
use Rattle.join.proofs.Outcomes.{left_told, both_told}
use Rattle.join.proofs.checking.accepted.Goals as goal

pub returns-in_err-side_accepted : goal.returns-in_err-side_accepted
returns-in_err-side_accepted c =
    let p = err_from_is_err_and c.from_residual.result c.from_residual.ensures.1 in
    rw (p.1, p.2) (left_told _ c.side_accepted.ensures _ c.in_err-side_accepted.was)

pub returns : goal.returns
returns c = both_told _ c.side_accepted.ensures c.in_ok-side_accepted.was c.side_accepted-2.ensures
