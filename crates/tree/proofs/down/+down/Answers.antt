-- The recursion computes `down`: a node's own test, then its near child, then its far child. Assumes nothing.
use Rattle.std.proofs.Common.{◌≡◌, sym, ◌∙◌, ℕ, arith}
use Rattle.cursor.specs.Held.{node_of}
use Rattle.cursor.specs.Lent.{lent_tree}
use Rattle.tree.proofs.Descent.{has_level, so_far, last_passes, near_decides, own_fails, fails, far_decides}
use Rattle.tree.proofs.Nodes.{splits, near_stands, far_stands}
use Rattle.tree.proofs.down.+down.Goals as goal
use Rattle.tree.proofs.down.+down.Goals.{Joined-holds, then-holds, else-holds}

pub returns-then-is_leaf : goal.returns-then-is_leaf
returns-then-is_leaf g t c = last_passes (g.R.NodeRule.test c.args.k (lent_tree c.args.tree.now)) (node_of c.args.c) (sym c.if-is_leaf.ensures)

pub split-halves-requires : goal.split-halves-requires
split-halves-requires g t c = splits c.requires (has_level (node_of c.args.c) (sym c.if-is_leaf.ensures))

pub down-requires : goal.down-requires
down-requires g t c κs within =
    let n = near_stands c.requires (has_level (node_of c.args.c) (sym c.if-is_leaf.ensures)) (node_of c.split-halves.result.near) c.split-halves.ensures.near_value in
    (omega (arith, n.0), (within, n.1))

-- what the node's own test and its near child say
so_far_is : (g : _) (t : ℕ) (c : Joined-holds g t) → c.if-holds.value ≡ so_far (g.R.NodeRule.test c.args.k (lent_tree c.args.tree.now)) (node_of c.args.c)
so_far_is g t c =
    let test = g.R.NodeRule.test c.args.k (lent_tree c.args.tree.now) in
    elim c.if-holds.branch [
      | then-holds w ↦ w.value-is ∙ near_decides test (node_of c.args.c) c.holds.ensures w.if-holds.true c.split-halves.ensures.near_value w.down.ensures
      | else-holds w ↦ w.value-is ∙ own_fails test (node_of c.args.c) c.holds.ensures w.if-holds.false
    ]

pub down-requires-then-down : goal.down-requires-then-down
down-requires-then-down g t c κs within =
    let n = far_stands c.requires (has_level (node_of c.args.c) (sym c.if-is_leaf.ensures)) (node_of c.split-halves.result.far) c.split-halves.ensures.far_value in
    (omega (arith, n.0), (within, n.1))

pub returns-else-down : goal.returns-else-down
returns-else-down g t c =
    fails (g.R.NodeRule.test c.args.k (lent_tree c.args.tree.now)) (node_of c.args.c) (sym c.if-is_leaf.ensures) (so_far_is g t (goal.at.returns-else-down g t c).Joined-holds) c.if-down.false

pub returns-then-down : goal.returns-then-down
returns-then-down g t c =
    far_decides (g.R.NodeRule.test c.args.k (lent_tree c.args.tree.now)) (node_of c.args.c) (sym c.if-is_leaf.ensures) (so_far_is g t (goal.at.returns-then-down g t c).Joined-holds) c.if-down.true c.split-halves.ensures.far_value c.down-then-down.ensures
