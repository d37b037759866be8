-- The halves are parts of the column of the node's axis, as `Columns` has them. Assumes nothing.
use Rattle.std.proofs.Common.{◌≡◌, ap, ◌∙◌, arith}
use Rattle.written.specs.LentTree.{start, Cursor, middle}
use Rattle.cursor.specs.Held.{node_of}
use Rattle.cursor.specs.Lent.{lent_tree}
use Rattle.tree.specs.Lent.{halves_ok}
use Rattle.tree.proofs.Columns.{Reckoned, Lies, lies, halves_are, place_fits}
use Rattle.tree.proofs.Nodes.{splits, stem_read, on, leaf_read}
use Rattle.tree.proofs.order.OrderNodeRule.holds.Goals as goal
use Rattle.tree.proofs.order.OrderNodeRule.holds.Goals.{After-start_of-3}

pub split-halves-requires : goal.split-halves-requires
split-halves-requires c = splits c.requires.0 c.requires.1

-- ---- the reckoning
pub start_of-requires : goal.start_of-requires
start_of-requires c = leaf_read c.requires.0 _ (omega (arith, on c.requires.0))

pub overflow_add-first : goal.overflow_add-first
overflow_add-first c = omega (arith, place_fits c.requires.0 c.args.c.first.0 c.axis.ensures c.start_of.ensures (omega (arith, on c.requires.0)))

pub start_of-requires-2 : goal.start_of-requires-2
start_of-requires-2 c =
    let middle_is : c.split-halves.result.far.first.0 ≡ middle (node_of c.args.c) = ap (λ (n : Cursor). n.first) c.split-halves.ensures.far_value in
    leaf_read c.requires.0 _ (omega (arith, on c.requires.0, middle_is))

pub overflow_add-middle : goal.overflow_add-middle
overflow_add-middle c =
    let middle_is : c.split-halves.result.far.first.0 ≡ middle (node_of c.args.c) = ap (λ (n : Cursor). n.first) c.split-halves.ensures.far_value in
    omega (arith, place_fits c.requires.0 c.split-halves.result.far.first.0 c.axis.ensures c.start_of-2.ensures (omega (arith, on c.requires.0, middle_is)))

pub start_of-requires-3 : goal.start_of-requires-3
start_of-requires-3 c = leaf_read c.requires.0 _ (on c.requires.0).inside

pub overflow_add-end : goal.overflow_add-end
overflow_add-end c = omega (arith, place_fits c.requires.0 c.args.c.end.0 c.axis.ensures c.start_of-3.ensures (on c.requires.0).inside)

reckoned : (c : After-start_of-3) → Reckoned c.args.k (lent_tree c.args.tree.now) (node_of c.args.c) c.axis.result c.start_of.result c.start_of-2.result c.start_of-3.result
reckoned c = record {
  axis_is = c.axis.ensures;
  first_is = c.start_of.ensures;
  middle_is = c.start_of-2.ensures ∙ ap (λ (n : Cursor). start (lent_tree c.args.tree.now) n.first) c.split-halves.ensures.far_value;
  end_is = c.start_of-3.ensures;
}

lie : (c : After-start_of-3) → Lies (lent_tree c.args.tree.now) c.axis.result c.start_of.result c.start_of-2.result c.start_of-3.result
lie c = lies c.requires.0 (reckoned c)

-- ---- the two halves
pub offset_bounds-tree-first : goal.offset_bounds-tree-first
offset_bounds-tree-first c = omega (arith, lie (goal.at.offset_bounds-tree-first c).After-start_of-3)

pub slice_bounds-halves_ok-count : goal.slice_bounds-halves_ok-count
slice_bounds-halves_ok-count c = omega (arith, lie (goal.at.slice_bounds-halves_ok-count c).After-start_of-3)

pub slice_bounds-halves_ok-start : goal.slice_bounds-halves_ok-start
slice_bounds-halves_ok-start c = omega (arith, lie (goal.at.slice_bounds-halves_ok-start c).After-start_of-3)

pub slice_bounds-halves_ok-end : goal.slice_bounds-halves_ok-end
slice_bounds-halves_ok-end c = omega (arith, lie (goal.at.slice_bounds-halves_ok-end c).After-start_of-3)

pub offset_bounds-tree-middle : goal.offset_bounds-tree-middle
offset_bounds-tree-middle c = omega (arith, lie (goal.at.offset_bounds-tree-middle c).After-start_of-3)

pub slice_bounds-halves_ok-count-2 : goal.slice_bounds-halves_ok-count-2
slice_bounds-halves_ok-count-2 c = omega (arith, lie (goal.at.slice_bounds-halves_ok-count-2 c).After-start_of-3)

pub slice_bounds-halves_ok-start-2 : goal.slice_bounds-halves_ok-start-2
slice_bounds-halves_ok-start-2 c = omega (arith, lie (goal.at.slice_bounds-halves_ok-start-2 c).After-start_of-3)

pub slice_bounds-halves_ok-end-2 : goal.slice_bounds-halves_ok-end-2
slice_bounds-halves_ok-end-2 c = omega (arith, lie (goal.at.slice_bounds-halves_ok-end-2 c).After-start_of-3)

-- ---- the pivot
pub pivot-requires : goal.pivot-requires
pivot-requires c = stem_read c.requires.0 c.requires.1

pub returns : goal.returns
returns c = c.halves_ok.ensures ∙ ap (halves_ok _ _) c.pivot.ensures ∙ halves_are c.requires.0 (reckoned (goal.at.returns c).After-start_of-3)
