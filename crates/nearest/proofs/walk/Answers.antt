-- `walk` meets its contract. Assumes nothing.
use mathlib.Core.Path.{sym, ap, ◌∙◌}
use Rattle.cursor.specs.Lent.{lent_trees}
use Rattle.nearvisit.specs.Held.{held_of}
use Rattle.nearest.specs.Setting.{Setting}
use Rattle.nearest.specs.Carrying.{begins}
use Rattle.nearest.proofs.Turning.{held_begun}
use Rattle.nearest.proofs.walk.Goals as goal

pub walk-requires-clause-whole : goal.walk-requires-clause-whole
walk-requires-clause-whole c =
    let a = c.args in
    let j = lent_trees a.trees.now in
    begins j c.requires.points (held_begun j c.none.result a.items.now a.dists.now c.none.ensures c.requires.answering.1)

-- each room ends as its visitor leaves it, since no visit changes which room that is
pub returns : goal.returns
returns c =
    let a = c.args in
    let j = lent_trees a.trees.now in
    let s = sym c.walk.ensures.setting in
    let v = c.walk.new.visitor in
    let m = c.items-1.given.1.1 (ap (λ (x : Setting). x.items) s) in
    let d = c.dists-1.given.1.1 (ap (λ (x : Setting). x.distances) s) in
    (λ i. held_of v.tally (m i) (d i)) ∙ c.walk.ensures.done ∙ begins j c.requires.points (held_begun j c.none.result a.items.now a.dists.now c.none.ensures c.requires.answering.1)
