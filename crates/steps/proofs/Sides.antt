-- What stands on a side, as the code holds it and as the walk's definitions have it; and one side put anew. Assumes nothing.
use mathlib.Core.Path.{◌≡◌, refl, ap, ap₂, ◌∙◌}
use Rattle.written.specs.LentTree.{Cursor}
use Rattle.written.specs.Boxes.{Boxes}
use Rattle.written.specs.NodePairs.{Side, left_side, right_side, NodePair, on_side, moved}
use Rattle.cursor.specs.Held.{node_of, side_of}
use Rattle.cursor.specs.declared.node.Cursor.{Cursor as Held}
use Rattle.steps.specs.declared.nodes.Nodes.{Nodes}
use Rattle.steps.specs.Standing.{pair_at, chosen}
use Rattle.cursor.specs.declared.lent.Side.{Side as HeldSide}

-- the node on a side is the node of what stands there
pub node_on : (x : Side) (l r : Held) → node_of (on_side x l r) ≡ on_side x (node_of l) (node_of r)
node_on left_side l r = refl
node_on right_side l r = refl

-- the cursor that is read on a side stands on the chosen node
pub chosen_is : (side : HeldSide) (at : Nodes) {c : Held} → c ≡ on_side (side_of side) at.left at.right → node_of c ≡ chosen side at
chosen_is side at e = ap node_of e ∙ node_on (side_of side) at.left at.right

-- nodes with one side put anew stand on the node pair with that side put anew
pub moved_is : (side : HeldSide) (at r : Nodes) (to : Held) {n : Cursor} → (r.left ≡ on_side (side_of side) to at.left) × (r.right ≡ on_side (side_of side) at.right to) → node_of to ≡ n → (b : Boxes) → pair_at r b ≡ moved (side_of side) n b (pair_at at b)
moved_is side at r to {n} e h b =
    let x = side_of side in
    let left : node_of r.left ≡ on_side x n (node_of at.left) = ap node_of e.0 ∙ node_on x to at.left ∙ ap (λ (m : Cursor). on_side x m (node_of at.left)) h in
    let right : node_of r.right ≡ on_side x (node_of at.right) n = ap node_of e.1 ∙ node_on x at.right to ∙ ap (on_side x (node_of at.right)) h in
    ap₂ {C = NodePair} (λ (l r : Cursor). record { left = l; right = r; boxes = b }) left right
