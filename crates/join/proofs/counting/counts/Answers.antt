-- A tree's refusal, or what the walk counted. Assumes nothing.
use mathlib.Core.Path.{refl}
use Rattle.std.specs.Prelude.{Ok}
use Rattle.std.proofs.lemmas.Result.{err_from_is_err_and}
use Rattle.join.proofs.Outcomes.{both_accepted, counts_checked, counts_told}
use Rattle.join.proofs.counting.counts.Goals as goal

pub returns-in_err-accepted : goal.returns-in_err-accepted
returns-in_err-accepted c =
    let p = err_from_is_err_and c.from_residual.result c.from_residual.ensures.1 in
    rw (p.1, p.2) (counts_checked _ _ _ _ c.in_err-accepted.ensures)

pub returns : goal.returns
returns c = counts_told _ _ _ (Ok c.walk.result) refl (both_accepted _ c.in_ok-accepted.ensures) c.walk.ensures
