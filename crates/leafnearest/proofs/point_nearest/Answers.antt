-- What the sums and the last column offer are the right point's distances; where none is smaller, nothing changes. Assumes nothing.
use mathlib.Core.Path.{◌≡◌, sym, ◌∙◌}
use Prim.Native.Nat.{suc, ◌-◌}
use native.Mathlib.Omega.{arith}
use lib.ListN.{length, get_or}
use Rattle.metric.specs.Lent.{point_at}
use Rattle.leaf.specs.Lent.{join_of}
use Rattle.leaf.specs.Sums.{reached}
use Rattle.leafnearest.specs.Answers.{answers, offered, improved}
use Rattle.leafnearest.proofs.Improved.{none_offered, offered_point}
use Rattle.leafnearest.proofs.Stored.{length_answers}
use Rattle.leafnearest.proofs.point_nearest.Goals as goal

pub returns-then-improving-eq0 : goal.returns-then-improving-eq0
returns-then-improving-eq0 c =
    let point : let a = c.args in let was = answers a.items.now a.dists.now in offered (reached c.first_axes.new.sums (point_at a.trees.now.right.coords.now (length a.trees.now.right.items.now) a.q (a.trees.now.k - 1)) c.tile-column.result.now) (get_or a.trees.now.right.items.now a.q 0) was ≡ improved (join_of a.trees.now.k a.trees.now.left.items.now a.trees.now.left.coords.now a.trees.now.right.items.now a.trees.now.right.coords.now) a.left.from a.q (suc a.q) was = let a = c.args in
    let same : length a.items.now ≡ length a.dists.now = omega (arith, c.requires.answering) in
    offered_point a.trees.now.k a.trees.now.left.items.now a.trees.now.left.coords.now a.trees.now.right.items.now a.trees.now.right.coords.now a.left.from (a.left.to - a.left.from) a.q c.first_axes.new.sums c.tile-column.result.now c.requires.point_tile.some_axes (rw (c.columns-one.ensures.number, c.columns-one.ensures.coords, c.columns-many.ensures.number, c.columns-many.ensures.coords) at c.first_axes.ensures.holds) c.tile-column.ensures.value (answers a.items.now a.dists.now) (length_answers a.items.now a.dists.now same ∙ c.requires.answering.1) in
    let a = c.args in
    let t = c.tile-column.ensures.len in
    record { dists_after = sym (none_offered _ (get_or a.trees.now.right.items.now a.q 0) a.items.now a.dists.now _ (c.requires.answering.0 ∙ sym t) (c.requires.answering.1 ∙ sym t) (sym c.improving.ensures ∙ c.if-improving-eq0.true)) ∙ point; fresh = c.first_axes.ensures.fresh }

pub returns : goal.returns
returns c =
    let point : let a = c.args in let was = answers a.items.now a.dists.now in offered (reached c.first_axes.new.sums (point_at a.trees.now.right.coords.now (length a.trees.now.right.items.now) a.q (a.trees.now.k - 1)) c.tile-column.result.now) (get_or a.trees.now.right.items.now a.q 0) was ≡ improved (join_of a.trees.now.k a.trees.now.left.items.now a.trees.now.left.coords.now a.trees.now.right.items.now a.trees.now.right.coords.now) a.left.from a.q (suc a.q) was = let a = c.args in
    let same : length a.items.now ≡ length a.dists.now = omega (arith, c.requires.answering) in
    offered_point a.trees.now.k a.trees.now.left.items.now a.trees.now.left.coords.now a.trees.now.right.items.now a.trees.now.right.coords.now a.left.from (a.left.to - a.left.from) a.q c.first_axes.new.sums c.tile-column.result.now c.requires.point_tile.some_axes (rw (c.columns-one.ensures.number, c.columns-one.ensures.coords, c.columns-many.ensures.number, c.columns-many.ensures.coords) at c.first_axes.ensures.holds) c.tile-column.ensures.value (answers a.items.now a.dists.now) (length_answers a.items.now a.dists.now same ∙ c.requires.answering.1) in
    record { dists_after = c.keep_nearer.ensures ∙ point; fresh = c.first_axes.ensures.fresh }
