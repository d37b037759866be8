-- Each early return tells the first rule broken; what the tests before it granted is what the next one asks. Assumes nothing.
use Rattle.std.proofs.Common.{◌≡◌, sym, ap, ◌∙◌, subst}
use Rattle.written.specs.LentTree.{the_root}
use Rattle.written.specs.Check.{rule₁, rule₂, rule₃, rule₄, rule₆, rule₇, keeps, refused_at, pivot_ok, refusal}
use Rattle.written.proofs.Checked.{rule_means}
use Rattle.cursor.specs.Held.{node_of}
use Rattle.cursor.specs.Lent.{lent_tree}
use Rattle.tree.specs.Lent.{Stands, order_at}
use Rattle.tree.proofs.Descent.{under}
use Rattle.tree.proofs.check.Goals as goal
use Rattle.tree.proofs.check.Goals.{Else-not-coords_ok, After-root-root, After-down, After-down-2}

pub returns-then-not-axes_ok : goal.returns-then-not-axes_ok
unfolding refusal
returns-then-not-axes_ok c = rw (← c.if-not-axes_ok.ensures)

pub returns-then-not-sizes_ok : goal.returns-then-not-sizes_ok
unfolding refusal
returns-then-not-sizes_ok c = rw (← c.if-not-axes_ok.ensures, ← c.if-not-sizes_ok.ensures)

pub returns-then-not-lengths_ok : goal.returns-then-not-lengths_ok
unfolding refusal
returns-then-not-lengths_ok c = rw (← c.if-not-axes_ok.ensures, ← c.if-not-sizes_ok.ensures, ← c.if-not-lengths_ok.ensures)

pub returns-then-not-starts_ok : goal.returns-then-not-starts_ok
unfolding refusal
returns-then-not-starts_ok c = rw (← c.if-not-axes_ok.ensures, ← c.if-not-sizes_ok.ensures, ← c.if-not-lengths_ok.ensures, ← c.if-not-starts_ok.ensures)

pub returns-then-not-coords_ok : goal.returns-then-not-coords_ok
unfolding refusal
returns-then-not-coords_ok c = rw (← c.if-not-axes_ok.ensures, ← c.if-not-sizes_ok.ensures, ← c.if-not-lengths_ok.ensures, ← c.if-not-starts_ok.ensures, ← c.if-not-coords_ok.ensures)

-- ---- rules 1 to 5 are kept: the root can be read, and the rules from the sixth on decide
stands : (c : After-root-root) → Stands c.args.k (lent_tree c.args.tree.now) (node_of c.root-root.result)
stands c =
    let means = rule_means c.args.k (lent_tree c.args.tree.now) in
    subst (Stands c.args.k (lent_tree c.args.tree.now)) (sym c.root-root.ensures)
    record {
      sized = record { axes = (means rule₁).0 (sym c.if-not-axes_ok.ensures); sizes = (means rule₂).0 (sym c.if-not-sizes_ok.ensures) };
      lengths = (means rule₃).0 (sym c.if-not-lengths_ok.ensures);
      starts_kept = (means rule₄).0 (sym c.if-not-starts_ok.ensures);
      node = the_root;
    }

from₆ : (c : Else-not-coords_ok) → refused_at c.args.k (lent_tree c.args.tree.now) rule₆ (refused_at c.args.k (lent_tree c.args.tree.now) rule₇ 0) ≡ refusal c.args.k (lent_tree c.args.tree.now)
unfolding refusal
from₆ c = rw (← c.if-not-axes_ok.ensures, ← c.if-not-sizes_ok.ensures, ← c.if-not-lengths_ok.ensures, ← c.if-not-starts_ok.ensures, ← c.if-not-coords_ok.ensures)

told₆ : (c : After-down) → c.down.result ≡ keeps c.args.k (lent_tree c.args.tree.now) rule₆
told₆ c = c.down.ensures ∙ ap (under (pivot_ok c.args.k (lent_tree c.args.tree.now))) c.root-root.ensures

told₇ : (c : After-down-2) → c.down-2.result ≡ keeps c.args.k (lent_tree c.args.tree.now) rule₇
told₇ c = c.down-2.ensures ∙ ap (under (order_at c.args.k (lent_tree c.args.tree.now))) c.root-root.ensures

pub down-requires : goal.down-requires
down-requires c = stands c

pub returns-then-not-down : goal.returns-then-not-down
returns-then-not-down c =
    let at = goal.at.returns-then-not-down c in
    rw (← from₆ at.Else-not-coords_ok, ← told₆ at.After-down, c.if-not-down.true)

pub down-requires-2 : goal.down-requires-2
down-requires-2 c = stands (goal.at.down-requires-2 c).After-root-root

pub returns-then-not-down-2 : goal.returns-then-not-down-2
returns-then-not-down-2 c =
    let at = goal.at.returns-then-not-down-2 c in
    rw (← from₆ at.Else-not-coords_ok, ← told₆ at.After-down, c.if-not-down.false, ← told₇ at.After-down-2, c.if-not-down-2.true)

pub returns : goal.returns
returns c =
    let at = goal.at.returns c in
    rw (← from₆ at.Else-not-coords_ok, ← told₆ at.After-down, c.if-not-down.false, ← told₇ at.After-down-2, c.if-not-down-2.false)
