-- What a node pair of two accepted trees lets the code read. Assumes nothing.
use mathlib.Core.Path.{◌≡◌, refl}
use mathlib.Core.List.{[]}
use Prim.Native.Nat.{◌≤◌, ◌<◌}
use native.Mathlib.Omega.{arith}
use Rattle.written.specs.LentTree.{start, Cursor, Node}
use Rattle.written.specs.Check.{Rule, rule₁, rule₂, rule₃, rule₄}
use Rattle.written.specs.Rules.{Kept}
use Rattle.written.proofs.Checked.{accepted_means}
use Rattle.written.specs.Boxes.{Trees}
use Rattle.written.specs.NodePairs.{Side, left_side, right_side, tree_of, cursor_of}
use Rattle.written.specs.Answers.{Accepts}
use Rattle.written.proofs.Laws.LentTree.{On}
use Rattle.cursor.specs.Held.{node_of, side_of}
use Rattle.tree.specs.Lent.{Stands}
use Rattle.tree.proofs.Nodes.{laid, on, leaf_read, start_within, splits, stem_read}
use Rattle.leaf.specs.Lent.{Stretch}
use Rattle.steps.specs.declared.nodes.Nodes.{Nodes}
use Rattle.steps.specs.Standing.{pair_at, Ordered, Within, chosen, SplitsAt}
use Rattle.steps.specs.Ending.{Leaves}
use Rattle.cursor.specs.declared.lent.Side.{Side as HeldSide}

module _ (j : Trees) (ok : Accepts j) where
  pub keeps : (x : Side) (r : Rule) → Kept j.axes (tree_of j x) r
  keeps left_side r = (accepted_means j.axes j.left).0 ok.0 r
  keeps right_side r = (accepted_means j.axes j.right).0 ok.1 r

  module _ (x : Side) (c : Cursor) (n : Node (tree_of j x) c) where
    stands : Stands j.axes (tree_of j x) c
    stands = record { sized = record { axes = keeps x rule₁; sizes = keeps x rule₂ }; lengths = keeps x rule₃; starts_kept = keeps x rule₄; node = n }

    pub ordered : c.first ≤ c.end
    ordered = (on stands).ordered

    within : Within (tree_of j x).starts c
    within =
        let o : On (tree_of j x) c = on stands in
        record {
          first_read = leaf_read stands c.first (omega (arith, o.ordered, o.inside));
          end_read = leaf_read stands c.end o.inside;
          rising = (laid stands).rises c.first c.end o.ordered o.inside;
          few = omega (arith, start_within stands c.end o.inside, (keeps x rule₂).2);
        }

    stretch : Stretch j.axes (tree_of j x).items (tree_of j x).coords (start (tree_of j x) c.first) (start (tree_of j x) c.end)
    stretch = record { rising = within.rising; inside = start_within stands c.end (on stands).inside; few = (keeps x rule₂).2; whole = (keeps x rule₃).2 }

  module _ (at : Nodes) (node : (x : Side) → Node (tree_of j x) (cursor_of x (pair_at at (record { mins = []; maxs = [] })))) where
    pub ordered_both : Ordered at
    ordered_both = record { left = ordered left_side (node_of at.left) (node left_side); right = ordered right_side (node_of at.right) (node right_side) }

    pub leaves_read : Leaves j.axes j.left.starts j.left.items j.left.coords j.right.starts j.right.items j.right.coords at
    leaves_read = record {
      left_within = within left_side (node_of at.left) (node left_side);
      right_within = within right_side (node_of at.right) (node right_side);
      pair = record { some_axes = (keeps left_side rule₁).0; few_axes = (keeps left_side rule₁).1; left = stretch left_side (node_of at.left) (node left_side); right = stretch right_side (node_of at.right) (node right_side) };
    }

    splits_on : (x : Side) (side : HeldSide) → side_of side ≡ x → 0 < (cursor_of x (pair_at at (record { mins = []; maxs = [] }))).rest → SplitsAt j.axes j.left.stems j.right.stems side at
    splits_on left_side side e h = let s = stands left_side (node_of at.left) (node left_side) in record { some_axis = (keeps left_side rule₁).0; splits = rw e (splits s h); stem_read = rw e (stem_read s h) }
    splits_on right_side side e h = let s = stands right_side (node_of at.right) (node right_side) in record { some_axis = (keeps right_side rule₁).0; splits = rw e (splits s h); stem_read = rw e (stem_read s h) }

    pub splits_there : (side : HeldSide) → 0 < (chosen side at).rest → SplitsAt j.axes j.left.stems j.right.stems side at
    splits_there side h = splits_on (side_of side) side refl h
