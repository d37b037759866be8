-- A turn of the loop that visits the node pair at hand keeps the invariant, for any walk. Assumes nothing.
use mathlib.Core.Path.{◌≡◌, refl, sym, ap, ap₂, ◌∙◌, subst, subst₂}
use mathlib.Core.List.{List, ◌∷◌}
use mathlib.Core.Bool.{Bool, true, false, ◌&&◌, cond}
use Prim.Native.Nat.{ℕ, ◌+◌, ◌<◌}
use native.Mathlib.Nat.{mod-lt}
use native.Mathlib.Omega.{arith}
use lib.ListN.{get_or, set, length-set}
use lib.Ieee.{Float, nan}
use Rattle.written.specs.LentTree.{axis, is_leaf, near, far}
use Rattle.written.specs.Check.{is_top, rule₁}
use Rattle.written.specs.Boxes.{Trees, Boxes, lowered, raised}
use Rattle.written.specs.Visits.{Step, goes, forks}
use Rattle.written.specs.NodePairs.{Side, left_side, right_side, NodePair, on_side, tree_of, cursor_of, corner, picked, moved, cut_at, cut_by, near_half, far_half, halves, split}
use Rattle.written.specs.Answers.{Accepts}
use Rattle.written.proofs.Laws.RadiusWalk.{Good, picked_rest, law_descend}
use Rattle.written.proofs.Laws.Accepted.{both_accepted}
use Rattle.cursor.specs.Held.{side_of}
use Rattle.steps.specs.declared.nodes.Nodes.{Nodes}
use Rattle.steps.specs.declared.descent.Descent.{Descent}
use Rattle.steps.specs.declared.waiting.Waiting.{Waiting}
use Rattle.steps.specs.declared.waiting.Waiting.TheVariants.{Half}
use Rattle.steps.specs.Standing.{pair_at, side_by, chosen, SplitsAt, Descended}
use Rattle.steps.proofs.Halves.{Order, near_first, far_first, first, second, first_has, second_has, slot_of, within_boxes, put, first_boxes, waiting_boxes, first_sized, put_back, put_second}
use Rattle.steps.proofs.Waits.{view, view_push, view_length}
use Rattle.steps.proofs.Pending.{levels_left, OnwardFrom, BelowIt, goes_below, forks_below, Walk, resume, resume_half}
use Rattle.steps.proofs.Reading.{keeps, splits_there}
use Rattle.steps.proofs.Going.{Sound, Going, room}
use Rattle.cursor.specs.declared.lent.Side.{Side as HeldSide}

-- a visit does x, which is to split that side, and the side has a level left
pub record SplitsOn (j : Trees) (s : NodePair) (x : Step NodePair) (side : HeldSide) : Type 0 where
  pub splits_so : x ≡ split j (picked s) s
  pub side_is : side_of side ≡ picked s
  pub no_leaves : (is_leaf s.left && is_leaf s.right) ≡ false

pub side_picked : (right : Bool) → side_of (side_by right) ≡ cond right right_side left_side
side_picked true = refl
side_picked false = refl

-- both halves, in the order in which they are taken
first_is : (o : Order) {n f : Nodes} {low high : Boxes} {t u : NodePair} → pair_at n low ≡ t → pair_at f high ≡ u → pair_at (first o n f) (first o low high) ≡ first o t u
first_is near_first p q = p
first_is far_first p q = q

second_is : (o : Order) {n f : Nodes} {low high : Boxes} {t u : NodePair} → pair_at n low ≡ t → pair_at f high ≡ u → pair_at (second o n f) (second o low high) ≡ second o t u
second_is near_first p q = q
second_is far_first p q = p

module _ {j : Trees} {W : Type 0} {k : Walk j W} (ok : Accepts j) {all : W} {at : Nodes} {b : Boxes} {w : W} {stack : List Waiting} {len : ℕ} (g : Going k all at b w stack len true) where
  abbrev s : NodePair
  s = pair_at at b

  pub good_here : Good j (levels_left s) s
  good_here = g.good refl

  pub splits_here : {side : HeldSide} → SplitsOn j s (k.next w s) side → SplitsAt j.axes j.left.stems j.right.stems side at
  splits_here {side} p = splits_there j ok at good_here.node side (subst (λ (y : Side). 0 < (cursor_of y s).rest) (sym p.side_is) (picked_rest j (both_accepted j ok) s p.no_leaves))

  -- it ends
  pub turn_end : {w' : W} → w' ≡ k.walks s w → Going k all at b w' stack len false
  turn_end e = record {
    owes = ap (resume k b (view len stack)) e ∙ g.owes;
    size = g.size;
    sized = g.sized;
    deep = g.deep;
    good = λ q. absurd (let z : ◌≡◌ {A = ℕ} 0 1 = cc in omega arith);
    depth = λ q. absurd (let z : ◌≡◌ {A = ℕ} 0 1 = cc in omega arith);
    waits = g.waits;
  }

  -- it splits
  module _ (side : HeldSide) (p : SplitsOn j s (k.next w s) side) (d : Descent) (q : Descended j.axes j.left.stems j.right.stems side at d) where
    abbrev x : Side
    x = side_of side

    next_split : k.next w s ≡ split j x s
    next_split = p.splits_so ∙ ap (λ (y : Side). split j y s) (sym p.side_is)

    onward_split : OnwardFrom j s (split j x s)
    onward_split = subst (λ (y : Side). OnwardFrom j s (split j y s)) (sym p.side_is) (law_descend j (both_accepted j ok) (levels_left s) s good_here p.no_leaves)

    split_is : split j x s ≡ halves j (is_top (cut_by j x s)) x s
    unfolding split
    split_is = refl

    stems_on : (y : Side) → on_side y j.left.stems j.right.stems ≡ (tree_of j y).stems
    stems_on left_side = refl
    stems_on right_side = refl

    pivot_is : d.pivot ≡ cut_by j x s
    pivot_is = q.by_pivot ∙ ap (λ (l : List Float). get_or l (chosen side at).stem nan) (stems_on x)

    slot_is : slot_of side d.axis ≡ cut_at j x s
    slot_is = ap (λ (a : ℕ). corner x + a) q.on_axis

    pub axis_small : d.axis < 4
    axis_small = let h : axis j.axes (chosen side at) < j.axes = mod-lt _ (keeps j ok left_side rule₁).0 in omega (arith, q.on_axis, (keeps j ok left_side rule₁).1)

    pub slot_small : {i : ℕ} → i ≡ slot_of side d.axis → i < 8
    slot_small e = within_boxes side d.axis e axis_small

    -- a pivot of +inf: the near half alone
    turn_alone : is_top d.pivot ≡ true → Going k all d.near b (k.examined w) stack len true
    turn_alone top =
        let t : NodePair = moved x (near (chosen side at)) b s in
        let alone : split j x s ≡ goes t = split_is ∙ ap (λ (y : Bool). halves j y x s) (ap is_top (sym pivot_is) ∙ top) in
        let onward : OnwardFrom j s (goes t) = subst (OnwardFrom j s) alone onward_split in
        let a : BelowIt j s t = goes_below j s t onward in
        let n : pair_at d.near b ≡ t = q.to_near b in
        record {
          owes = ap (resume k b (view len stack)) (ap (λ (y : NodePair). k.walks y (k.examined w)) n ∙ sym (k.on_goes s t w (next_split ∙ alone) onward)) ∙ g.owes;
          size = g.size;
          sized = g.sized;
          deep = g.deep;
          good = λ e. subst (λ (y : NodePair). Good j (levels_left y) y) (sym n) a.good;
          depth = λ e. let m : levels_left (pair_at d.near b) ≡ levels_left t = ap levels_left n in omega (arith, g.depth refl, a.fewer);
          waits = g.waits;
        }

    -- else one half, with its box side lowered or raised, while the other waits
    abbrev o : Order
    o = k.order

    abbrev i : ℕ
    i = slot_of side d.axis

    abbrev lo : Float
    lo = get_or b.mins i nan

    abbrev hi : Float
    hi = get_or b.maxs i nan

    abbrev taken : Nodes
    taken = first o d.near d.far

    abbrev cut : Boxes
    cut = first_boxes o i d.pivot b

    abbrev left_waiting : Nodes
    left_waiting = second o d.near d.far

    abbrev entry : Waiting
    entry = Half side d.axis lo hi d.pivot left_waiting

    near_is : pair_at d.near (lowered b i d.pivot) ≡ near_half j x s
    near_is = q.to_near (lowered b i d.pivot) ∙ ap₂ (λ (a : ℕ) (v : Float). moved x (near (chosen side at)) (lowered b a v) s) slot_is pivot_is

    far_is : pair_at d.far (raised b i d.pivot) ≡ far_half j x s
    far_is = q.to_far (raised b i d.pivot) ∙ ap₂ (λ (a : ℕ) (v : Float). moved x (far (chosen side at)) (raised b a v) s) slot_is pivot_is

    turn_both : is_top d.pivot ≡ false → Going k all taken cut (k.examined w) (set stack len entry) (len + 1) true
    turn_both top =
        let t : NodePair = near_half j x s in
        let u : NodePair = far_half j x s in
        let forked : split j x s ≡ forks t u = split_is ∙ ap (λ (y : Bool). halves j y x s) (ap is_top (sym pivot_is) ∙ top) in
        let onward : OnwardFrom j s (forks t u) = subst (OnwardFrom j s) forked onward_split in
        let both : BelowIt j s t × BelowIt j s u = forks_below j s t u onward in
        let a : BelowIt j s (first o t u) = first_has (BelowIt j s) o both.0 both.1 in
        let c : BelowIt j s (second o t u) = second_has (BelowIt j s) o both.0 both.1 in
        let at_first : pair_at taken cut ≡ first o t u = first_is o near_is far_is in
        let at_second : pair_at left_waiting (waiting_boxes o i lo hi d.pivot cut) ≡ second o t u = ap (pair_at left_waiting) (put_second o i d.pivot b) ∙ second_is o near_is far_is in
        let v : view (len + 1) (set stack len entry) ≡ entry ∷ view len stack = view_push len stack entry (omega (arith, g.size, room ok g)) in
        let back : put i lo hi cut ≡ b = put_back o i d.pivot b in
        let m : levels_left (pair_at taken cut) ≡ levels_left (first o t u) = ap levels_left at_first in
        let n : levels_left (pair_at left_waiting cut) ≡ levels_left (second o t u) = ap levels_left at_second in
        let y : W = k.walks (pair_at taken cut) (k.examined w) in
        record {
          owes = ap (λ (ws : List Waiting). resume k cut ws y) v
              ∙ resume_half k cut side d.axis lo hi d.pivot left_waiting (view len stack) y
              ∙ ap₂ (λ (e : Boxes) (z : W). resume k e (view len stack) z) back
              (ap₂ k.walks at_second (ap (λ (z : NodePair). k.walks z (k.examined w)) at_first) ∙ sym (k.on_forks s t u w (next_split ∙ forked) onward))
              ∙ g.owes;
          size = length-set stack len entry ∙ g.size;
          sized = first_sized o i d.pivot g.sized;
          deep = omega (arith, g.depth refl, a.fewer);
          good = λ e. subst (λ (z : NodePair). Good j (levels_left z) z) (sym at_first) a.good;
          depth = λ e. omega (arith, g.depth refl, a.fewer);
          waits = subst (Sound j o cut) (sym v)
              (subst (λ (z : NodePair). Good j (levels_left z) z) (sym at_second) c.good, omega (arith, view_length len stack, g.depth refl, c.fewer), axis_small, subst (λ (e : Boxes). Sound j o e (view len stack)) (sym back) g.waits);
        }

    -- both as the code has them
    module _ {w₁ : W} {here : Bool} (v : w₁ ≡ k.examined w) (h : here ≡ true) where
      pub turn_to_near : is_top d.pivot ≡ true → Going k all d.near b w₁ stack len here
      turn_to_near top = subst₂ (λ (y : W) (z : Bool). Going k all d.near b y stack len z) (sym v) (sym h) (turn_alone top)

      pub turn_to_both : {a : ℕ} {c : Boxes} → a ≡ i → c ≡ first_boxes o a d.pivot b → is_top d.pivot ≡ false
          → Going k all taken c w₁ (set stack len (Half side d.axis (get_or b.mins a nan) (get_or b.maxs a nan) d.pivot left_waiting)) (len + 1) here
      turn_to_both {a} {c} e f top =
          let g₁ : Going k all taken cut w₁ (set stack len entry) (len + 1) here =
          subst₂ (λ (y : W) (z : Bool). Going k all taken cut y (set stack len entry) (len + 1) z) (sym v) (sym h) (turn_both top) in
          let g₂ : Going k all taken (first_boxes o a d.pivot b) w₁ (set stack len (Half side d.axis (get_or b.mins a nan) (get_or b.maxs a nan) d.pivot left_waiting)) (len + 1) here =
          subst (λ (n : ℕ). Going k all taken (first_boxes o n d.pivot b) w₁ (set stack len (Half side d.axis (get_or b.mins n nan) (get_or b.maxs n nan) d.pivot left_waiting)) (len + 1) here) (sym e) g₁ in
          subst (λ (y : Boxes). Going k all taken y w₁ (set stack len (Half side d.axis (get_or b.mins a nan) (get_or b.maxs a nan) d.pivot left_waiting)) (len + 1) here) (sym f) g₂
