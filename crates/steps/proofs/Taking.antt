-- A turn of the loop that takes an entry keeps the invariant, for any walk; when nothing waits, the walk is over. Assumes nothing.
use mathlib.Core.Path.{◌≡◌, sym, ap, ◌∙◌, subst, subst₂}
use mathlib.Core.List.{List, ◌∷◌}
use mathlib.Core.Bool.{Bool, true, false}
use Prim.Native.Nat.{ℕ, ◌+◌, ◌-◌, ◌<◌}
use native.Mathlib.Omega.{arith}
use lib.ListN.{set, length-set}
use lib.Ieee.{Float}
use Rattle.written.specs.Boxes.{Trees, Boxes}
use Rattle.written.specs.Answers.{Accepts}
use Rattle.metric.specs.Flat.{boxes_of}
use Rattle.steps.specs.declared.nodes.Nodes.{Nodes}
use Rattle.steps.specs.declared.waiting.Waiting.{Waiting}
use Rattle.steps.specs.declared.waiting.Waiting.TheVariants.{Half, Restore}
use Rattle.std.specs.Prelude.{Some, None}
use Rattle.steps.specs.Standing.{pair_at}
use Rattle.steps.proofs.Halves.{slot_of, put, put_put, put_sized, waiting_min, waiting_max, waiting_boxes}
use Rattle.steps.proofs.Waits.{view, view_push, view_length, taken, none_taken, some_taken}
use Rattle.steps.proofs.Pending.{Walk, resume, resume_none, resume_half, resume_back}
use Rattle.steps.proofs.Going.{Sound, Going, room}
use Rattle.cursor.specs.declared.lent.Side.{Side as HeldSide}

module _ {j : Trees} {W : Type 0} {k : Walk j W} (ok : Accepts j) {all : W} {at : Nodes} {b : Boxes} {w : W} {stack : List Waiting} {len : ℕ} (g : Going k all at b w stack len false) where
  abbrev Takes : Waiting → Type 0
  Takes e = taken (view len stack) ≡ Some e

  abbrev rest : List Waiting
  rest = view (len - 1) stack

  -- a half: its box side is put, and waits to be put back
  module _ (f : Nodes) (side : HeldSide) (axis : ℕ) (lo hi v : Float) (e : Takes (Half side axis lo hi v f)) where
    abbrev cut : Boxes
    cut = waiting_boxes k.order (slot_of side axis) lo hi v b

    sound_half : Sound j k.order b (Half side axis lo hi v f ∷ rest)
    sound_half = subst (Sound j k.order b) (some_taken len stack e).1 g.waits

    half_axis : axis < 4
    half_axis = sound_half.2

    turn_half : Going k all f cut w (set stack (len - 1) (Restore side axis lo hi)) (len - 1 + 1) true
    turn_half =
        let r : Waiting = Restore side axis lo hi in
        let t = some_taken len stack e in
        let v' : view (len - 1 + 1) (set stack (len - 1) r) ≡ r ∷ rest = view_push (len - 1) stack r (omega (arith, g.size, room ok g, t.0)) in
        let back : put (slot_of side axis) lo hi cut ≡ put (slot_of side axis) lo hi b = put_put (slot_of side axis) _ _ lo hi b in
        let y : W = k.walks (pair_at f cut) w in
        record {
          owes = ap (λ (ws : List Waiting). resume k cut ws y) v'
              ∙ resume_back k cut side axis lo hi rest y
              ∙ ap (λ (c : Boxes). resume k c rest y) back
              ∙ sym (resume_half k b side axis lo hi v f rest w)
              ∙ ap (λ (ws : List Waiting). resume k b ws w) (sym t.1)
              ∙ g.owes;
          size = length-set stack (len - 1) r ∙ g.size;
          sized = put_sized (slot_of side axis) _ _ g.sized;
          deep = omega (arith, g.deep, t.0);
          good = λ q. sound_half.0;
          depth = λ q. omega (arith, sound_half.1, view_length (len - 1) stack, t.0);
          waits = subst (Sound j k.order cut) (sym v') (half_axis, subst (λ (c : Boxes). Sound j k.order c rest) (sym back) sound_half.3);
        }

    -- as the code has it, the entry it leaves being r
    pub turn_to_half : {a : ℕ} {min max : Float} {r : Waiting} → a ≡ slot_of side axis → min ≡ waiting_min k.order v lo → max ≡ waiting_max k.order v hi → r ≡ Restore side axis lo hi
        → Going k all f (boxes_of (set b.mins a min) (set b.maxs a max)) w (set stack (len - 1) r) (len - 1 + 1) true
    turn_to_half {a} {min} {max} p q m s =
        let r₀ : Waiting = Restore side axis lo hi in
        let g₁ : Going k all f (boxes_of (set b.mins a min) (set b.maxs a (waiting_max k.order v hi))) w (set stack (len - 1) r₀) (len - 1 + 1) true =
        subst₂ (λ (n : ℕ) (x : Float). Going k all f (boxes_of (set b.mins n x) (set b.maxs n (waiting_max k.order v hi))) w (set stack (len - 1) r₀) (len - 1 + 1) true) (sym p) (sym q) turn_half in
        subst₂ (λ (x : Float) (y : Waiting). Going k all f (boxes_of (set b.mins a min) (set b.maxs a x)) w (set stack (len - 1) y) (len - 1 + 1) true) (sym m) (sym s) g₁

  -- a box side is put back
  module _ (side : HeldSide) (axis : ℕ) (lo hi : Float) (e : Takes (Restore side axis lo hi)) where
    sound_side : Sound j k.order b (Restore side axis lo hi ∷ rest)
    sound_side = subst (Sound j k.order b) (some_taken len stack e).1 g.waits

    turn_back : Going k all at (put (slot_of side axis) lo hi b) w stack (len - 1) false
    turn_back =
        let t = some_taken len stack e in
        record {
          owes = sym (resume_back k b side axis lo hi rest w) ∙ ap (λ (ws : List Waiting). resume k b ws w) (sym t.1) ∙ g.owes;
          size = g.size;
          sized = put_sized (slot_of side axis) lo hi g.sized;
          deep = omega (arith, g.deep);
          good = λ q. absurd (let z : ◌≡◌ {A = ℕ} 0 1 = cc in omega arith);
          depth = λ q. absurd (let z : ◌≡◌ {A = ℕ} 0 1 = cc in omega arith);
          waits = sound_side.1;
        }

    pub turn_to_back : {a : ℕ} {here : Bool} → a ≡ slot_of side axis → here ≡ false → Going k all at (boxes_of (set b.mins a lo) (set b.maxs a hi)) w stack (len - 1) here
    turn_to_back p h = subst₂ (λ (n : ℕ) (z : Bool). Going k all at (boxes_of (set b.mins n lo) (set b.maxs n hi)) w stack (len - 1) z) (sym p) (sym h) turn_back

  -- when nothing waits, the walk is over
  pub turn_over : taken (view len stack) ≡ None → w ≡ all
  turn_over e = sym (resume_none k b w) ∙ ap (λ (ws : List Waiting). resume k b ws w) (sym (none_taken (view len stack) e)) ∙ g.owes
