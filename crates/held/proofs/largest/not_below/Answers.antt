-- One distance is above the bound, or none is and the bound is left to be held against 0. Assumes nothing.
use mathlib.Core.Path.{◌≡◌, sym, ap, ◌∙◌}
use mathlib.Core.Bool.{true, false, not}
use lib.Ieee.{lt, of_bits}
use Rattle.std.proofs.Common.{rules}
use Rattle.std.specs.List.{All, Any}
use Rattle.std.proofs.lemmas.List.Folds.{list_any_none, list_any-from_Any}
use Rattle.held.proofs.NoneAbove.{below_is, not_below_is, none_is}
use Rattle.held.proofs.largest.not_below.Goals as goal

pub returns-then-not-any : goal.returns-then-not-any
unfolding of_bits
returns-then-not-any c = let a = c.args in
    let each : All (λ d. lt a.bound d ≡ false) a.dists.now = search rules in
    sym (not_below_is a.bound a.dists.now (none_is a.bound a.dists.now ∙ ap not (list_any_none (lt a.bound) a.dists.now each)))

pub returns-else-not-any : goal.returns-else-not-any
returns-else-not-any c = let a = c.args in
    let one : Any (λ d. lt a.bound d ≡ true) a.dists.now = search rules in
    ap not c.if-not-any.false ∙ sym (below_is a.bound a.dists.now (none_is a.bound a.dists.now ∙ ap not (list_any-from_Any (lt a.bound) a.dists.now one)))
