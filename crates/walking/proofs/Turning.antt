-- A turn of the loop keeps the invariant, by what a visit promises and with the halves as the code orders them. Assumes nothing.
use mathlib.Core.Path.{◌≡◌, refl, sym, ap, ◌∙◌, subst, subst₂}
use mathlib.Core.List.{List}
use mathlib.Core.Bool.{Bool, true, false}
use Prim.Native.Nat.{ℕ, ◌+◌, ◌-◌, ◌≤◌}
use lib.ListN.{get_or, set}
use lib.Ieee.{Float, nan}
use Rattle.std.specs.Prelude.{Option, Some}
use Rattle.written.specs.Check.{is_top}
use Rattle.written.specs.Boxes.{Trees, Boxes}
use Rattle.written.specs.NodePairs.{NodePair}
use Rattle.written.specs.Answers.{Accepts}
use Rattle.cursor.specs.declared.lent.Side.{Side as HeldSide}
use Rattle.steps.specs.declared.nodes.Nodes.{Nodes}
use Rattle.steps.specs.declared.descent.Descent.{Descent}
use Rattle.steps.specs.declared.waiting.Waiting.{Waiting}
use Rattle.steps.specs.declared.waiting.Waiting.TheVariants.{Half, Restore}
use Rattle.steps.specs.Standing.{pair_at, Descended}
use Rattle.steps.proofs.Halves.{first, second, slot_of, first_boxes, waiting_boxes}
use Rattle.steps.proofs.Waits.{view, taken}
use Rattle.steps.proofs.Pending.{Walk, resume_grows}
use Rattle.steps.proofs.Going.{Going}
use Rattle.steps.proofs.Visiting.{SplitsOn, turn_to_both}
use Rattle.steps.proofs.Taking.{turn_to_half}
use Rattle.walking.specs.Orders.{order_by}
use Rattle.walking.specs.Visited.{Visited, NeverAbove}

-- what a visit came to, by the setting that stays and by what it gave
pub came_to : (j : Trees) {S W : Type 0} (walk : S → (j : Trees) → Walk j W) (s : NodePair) (w w' : W) {a b : S} → a ≡ b → {r q : Option HeldSide} → r ≡ q → Visited (walk a j) s w w' r → Visited (walk b j) s w w' q
came_to j walk s w w' e f h = subst₂ (λ x r. Visited (walk x j) s w w' r) e f h

module _ {j : Trees} {W : Type 0} {k : Walk j W} {all : W} {at : Nodes} {b : Boxes} {w : W} {stack : List Waiting} {len : ℕ} where
  -- nothing that is done at the node pair at hand comes to more than the whole walk
  pub under : Going k all at b w stack len true → NeverAbove k (k.walks (pair_at at b) w) all
  under g f grows = let y : W = k.walks (pair_at at b) w in subst (λ (z : W). f y ≤ f z) g.owes (resume_grows k f grows b (view len stack) y)

  module _ (ok : Accepts j) (far : Bool) (o : k.order ≡ order_by far) where
    pub turn_halves : (g : Going k all at b w stack len true) {side : HeldSide} → SplitsOn j (pair_at at b) (k.next w (pair_at at b)) side → {d : Descent} → Descended j.axes j.left.stems j.right.stems side at d → {w' : W} → w' ≡ k.examined w
        → {i : ℕ} {c : Boxes} {x y : Nodes} → i ≡ slot_of side d.axis → c ≡ first_boxes (order_by far) i d.pivot b → x ≡ first (order_by far) d.near d.far → y ≡ second (order_by far) d.near d.far → is_top d.pivot ≡ false
        → Going k all x c w' (set stack len (Half side d.axis (get_or b.mins i nan) (get_or b.maxs i nan) d.pivot y)) (len + 1) true
    turn_halves g {side} p {d} q {w'} v {i} {c} {x} {y} at_slot cut p₁ p₂ top =
        let half : Nodes → Waiting = λ n. Half side d.axis (get_or b.mins i nan) (get_or b.maxs i nan) d.pivot n in
        let t = turn_to_both ok g side p d q v refl at_slot (cut ∙ ap (λ z. first_boxes z i d.pivot b) (sym o)) top in
        subst₂ (λ m n. Going k all m c w' (set stack len (half n)) (len + 1) true)
        (ap (λ z. first z d.near d.far) o ∙ sym p₁) (ap (λ z. second z d.near d.far) o ∙ sym p₂) t

    pub turn_second : (g : Going k all at b w stack len false) {n : Nodes} {side : HeldSide} {axis : ℕ} {lo hi v : Float} → taken (view len stack) ≡ Some (Half side axis lo hi v n)
        → {i : ℕ} {c : Boxes} → i ≡ slot_of side axis → c ≡ waiting_boxes (order_by far) i lo hi v b
        → Going k all n c w (set stack (len - 1) (Restore side axis lo hi)) (len - 1 + 1) true
    turn_second g {n} {side} {axis} {lo} {hi} {v} e {i} {c} at_slot cut =
        subst (λ y. Going k all n y w (set stack (len - 1) (Restore side axis lo hi)) (len - 1 + 1) true) (sym (cut ∙ ap (λ z. waiting_boxes z i lo hi v b) (sym o)))
        (turn_to_half ok g n side axis lo hi v e at_slot refl refl refl)
