-- `walk` meets its contract. Assumes nothing.
use mathlib.Core.Path.{sym, ap, ◌∙◌}
use Rattle.cursor.specs.Lent.{lent_trees}
use Rattle.metric.specs.Edges.{edge_of}
use Rattle.steps.specs.Lent.{rooms_of}
use Rattle.radiusvisit.specs.Work.{work_of}
use Rattle.traversal.specs.Radius.{begins}
use Rattle.traversal.specs.Through.{tally_none}
use Rattle.traversal.specs.Setting.{Setting}
use Rattle.traversal.proofs.walk.Goals as goal

pub walk-requires-clause-whole : goal.walk-requires-clause-whole
walk-requires-clause-whole c =
    let a = c.args in
    let b = rooms_of a.lout.now a.rout.now a.dout.now in
    (b, begins (lent_trees a.trees.now) (edge_of a.within.edge) a.within.radius a.counting {b = b} (tally_none c.none.result b c.none.ensures))

-- each room ends as its visitor leaves it, since no visit changes which room that is
pub returns : goal.returns
returns c =
    let a = c.args in
    let b = rooms_of a.lout.now a.rout.now a.dout.now in
    let s = sym c.walk.ensures.setting in
    let v = c.walk.new.visitor in
    let l = c.lout-1.given.1.1 (ap (λ (x : Setting). x.lefts) s) in
    let r = c.rout-1.given.1.1 (ap (λ (x : Setting). x.rights) s) in
    let d = c.dout-1.given.1.1 (ap (λ (x : Setting). x.distances) s) in
    (λ i. work_of v.tally (l i) (r i) (d i)) ∙ c.walk.ensures.done ∙ begins (lent_trees a.trees.now) (edge_of a.within.edge) a.within.radius a.counting {b = b} (tally_none c.none.result b c.none.ensures)
