-- `walk` meets its contract: the loop's invariant is `Going`, with both trees accepted and the visitor ready as it was set. Assumes nothing.
use mathlib.Core.Path.{refl, sym, ap, ap₂, ◌∙◌}
use mathlib.Core.List.{List}
use Prim.Native.Nat.{ℕ, ◌+◌}
use native.Mathlib.Omega.{arith}
use lib.ListN.{length, set}
use Rattle.std.specs.Prelude.{Some}
use Rattle.written.specs.Check.{rule₂}
use Rattle.written.specs.NodePairs.{left_side, right_side}
use Rattle.cursor.specs.Lent.{lent_trees}
use Rattle.steps.specs.declared.waiting.Waiting.{Waiting}
use Rattle.steps.specs.declared.waiting.Waiting.TheVariants.{Restore}
use Rattle.metric.specs.Flat.{boxes_of}
use Rattle.steps.proofs.Waits.{pop_takes}
use Rattle.steps.proofs.Reading.{keeps}
use Rattle.steps.proofs.Going.{start, at_some, at_none, at_any, restacked, room}
use Rattle.steps.proofs.Visiting.{splits_here, axis_small, slot_small, turn_to_near}
use Rattle.steps.proofs.Taking.{turn_to_back, turn_over}
use Rattle.walking.proofs.Turning.{came_to, under, turn_halves, turn_second}
use Rattle.walking.proofs.walk.Goals as goal

pub roots-requires-clause-left : goal.roots-requires-clause-left
roots-requires-clause-left g c = let l = keeps _ c.requires.accepts left_side rule₂ in (l.0, l.1)

pub roots-requires-clause-right : goal.roots-requires-clause-right
roots-requires-clause-right g c = let r = keeps _ c.requires.accepts right_side rule₂ in (r.0, r.1)

pub loop-next-init : goal.loop-next-init
loop-next-init g c =
    let empty = c.empty-stack.ensures in
    (c.requires.accepts, c.requires.ready, refl, c.requires.whole, restacked refl empty.0 (start _ c.requires.accepts _ _ empty.1 c.roots.ensures.left c.roots.ensures.right c.everywhere-boxes.ensures refl))

-- ---- a visit of the node pair at hand

pub visit-requires-clause-under : goal.visit-requires-clause-under
visit-requires-clause-under g c =
    let i = c.loop-next.invariant in
    rw i.2 (_, i.3, under (at_some c.in-Some.is i.4))

pub descend-down-requires : goal.descend-down-requires
descend-down-requires g c =
    let i = c.loop-next.invariant in
    let v = came_to _ g.V.Visitor.walk _ _ _ i.2 c.in-Some-visit.is c.visit.ensures.visited in
    splits_here i.0 (at_some c.in-Some.is i.4) v.0

pub loop-next-preserved-then-is_top : goal.loop-next-preserved-then-is_top
loop-next-preserved-then-is_top g c =
    let i = c.loop-next.invariant in
    let v = came_to _ g.V.Visitor.walk _ _ _ i.2 c.in-Some-visit.is c.visit.ensures.visited in
    (i.0, c.visit.ensures.ready, c.visit.ensures.setting ∙ i.2, i.3, turn_to_near i.0 (at_some c.in-Some.is i.4) _ v.0 _ c.descend-down.ensures v.1 refl (sym c.is_top.ensures ∙ c.if-is_top.true))

pub slot-i-requires : goal.slot-i-requires
slot-i-requires g c =
    let i = c.loop-next.invariant in
    let v = came_to _ g.V.Visitor.walk _ _ _ i.2 c.in-Some-visit.is c.visit.ensures.visited in
    axis_small i.0 (at_some c.in-Some.is i.4) _ v.0 _ c.descend-down.ensures

pub bounds-boxes-i : goal.bounds-boxes-i
bounds-boxes-i g c =
    let i = c.loop-next.invariant in
    let v = came_to _ g.V.Visitor.walk _ _ _ i.2 c.in-Some-visit.is c.visit.ensures.visited in
    slot_small i.0 (at_some c.in-Some.is i.4) _ v.0 _ c.descend-down.ensures c.slot-i.ensures

pub bounds-boxes-i-else-is_top : goal.bounds-boxes-i-else-is_top
bounds-boxes-i-else-is_top g c =
    let i = c.loop-next.invariant in
    let v = came_to _ g.V.Visitor.walk _ _ _ i.2 c.in-Some-visit.is c.visit.ensures.visited in
    slot_small i.0 (at_some c.in-Some.is i.4) _ v.0 _ c.descend-down.ensures c.slot-i.ensures

pub push-requires : goal.push-requires
push-requires g c =
    let i = c.loop-next.invariant in
    (omega (arith, room i.0 i.4), i.4.size)

pub cut_first-requires : goal.cut_first-requires
cut_first-requires g c =
    let i = c.loop-next.invariant in
    let v = came_to _ g.V.Visitor.walk _ _ _ i.2 c.in-Some-visit.is c.visit.ensures.visited in
    slot_small i.0 (at_some c.in-Some.is i.4) _ v.0 _ c.descend-down.ensures c.slot-i.ensures

pub loop-next-preserved-else-is_top : goal.loop-next-preserved-else-is_top
loop-next-preserved-else-is_top g c =
    let l = c.loop-next in
    let i = l.invariant in
    let b = boxes_of l.boxes.min l.boxes.max in
    let d = c.descend-down.result in
    let o = c.far_first-far_first.ensures (lent_trees c.args.trees.now) in
    let v = came_to _ g.V.Visitor.walk _ _ _ i.2 c.in-Some-visit.is c.visit.ensures.visited in
    (i.0, c.visit.ensures.ready, c.visit.ensures.setting ∙ i.2, i.3, restacked c.push.ensures.entries c.push.ensures.len (turn_halves i.0 _ o (at_some c.in-Some.is i.4) v.0 c.descend-down.ensures v.1 c.slot-i.ensures c.cut_first.ensures c.in_order-halves.ensures.first c.in_order-halves.ensures.second (sym c.is_top.ensures ∙ c.if-is_top.false)))

-- ---- an entry is taken

pub pop-requires : goal.pop-requires
pop-requires g c =
    let i = c.loop-next.invariant in
    (omega (arith, room i.0 i.4), i.4.size)

pub returns-in_default-clause-done : goal.returns-in_default-clause-done
returns-in_default-clause-done g c =
    let i = c.loop-next.invariant in
    turn_over i.0 (at_none c.in-None.is i.4) (pop_takes _ _ _ c.pop.ensures.value ∙ c.in_default.is)

pub push-requires-in-Half : goal.push-requires-in-Half
push-requires-in-Half g c =
    let i = c.loop-next.invariant in
    (omega (arith, room i.0 i.4, c.pop.ensures.len), ap length c.pop.ensures.entries ∙ i.4.size)

pub loop-next-preserved-in-Half : goal.loop-next-preserved-in-Half
loop-next-preserved-in-Half g c =
    let l = c.loop-next in
    let i = l.invariant in
    let e = pop_takes _ _ _ c.pop.ensures.value ∙ c.in-Some-pop.is ∙ ap Some c.in-Half.is in
    let o = c.far_first-far_first.ensures (lent_trees c.args.trees.now) in
    let h = c.in-Half in
    let r = c.push-in-Half.ensures in
    (i.0, i.1, i.2, i.3, restacked (r.entries ∙ ap₂ (λ (s : List Waiting) (n : ℕ). set s n (Restore h.side h.axis h.min h.max)) c.pop.ensures.entries c.pop.ensures.len) (r.len ∙ ap (λ (n : ℕ). n + 1) c.pop.ensures.len) (turn_second i.0 _ o (at_none c.in-None.is i.4) e c.slot-i-in-Half.ensures c.cut_second.ensures))

pub loop-next-preserved : goal.loop-next-preserved
loop-next-preserved g c =
    let i = c.loop-next.invariant in
    let e = pop_takes _ _ _ c.pop.ensures.value ∙ c.in-Some-pop.is ∙ ap Some c.in-Restore.is in
    (i.0, i.1, i.2, i.3, restacked c.pop.ensures.entries c.pop.ensures.len (at_any c.in-None.is (turn_to_back i.0 (at_none c.in-None.is i.4) _ _ _ _ e c.slot-i-in-Restore.ensures refl)))
