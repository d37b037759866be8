-- What a call answers by what it found out: which tree is refused, whether the rooms agree, and what the walk did. Assumes nothing.
use mathlib.Core.Path.{◌≡◌, refl, sym, ap, ◌∙◌, subst}
use mathlib.Core.List.{List}
use mathlib.Core.Bool.{true, false}
use Prim.Native.Nat.{ℕ, zero, suc, ◌≤◌, ◌<◌}
use native.Mathlib.Omega.{arith}
use lib.ListN.{length}
use lib.Ieee.{Float}
use Rattle.std.proofs.lemmas.Bool.{le-leb, lt-leb}
use Rattle.written.specs.Boxes.{Trees, Edge}
use Rattle.written.specs.Answers.{Answer, answered, refused, checked, left_refusal, right_refusal, Accepts, PairRooms, pair_rooms_agree, room_number, pairs_in}
use Rattle.written.specs.Answers.{NearRooms, near_rooms_agree, near_room_ok, nearest_in}
use Rattle.written.specs.Rules.{FirstBroken}
use Rattle.written.proofs.Checked.{refusal_is_first}
use Rattle.written.specs.Calls.{TreeRefused, left_broken, right_broken}
use Rattle.written.proofs.Answered.{rooms_agree}
use Rattle.written.proofs.Laws.Checked.{on_refused}
use Rattle.rooms.specs.Rooms.{SameRooms}
use Rattle.steps.specs.Lent.{rooms_of}
use Rattle.steps.specs.Counted.{totals_held}
use Rattle.steps.specs.declared.tally.Tally.{Tally}
use Rattle.radiusvisit.specs.Work.{Work, work_of}
use Rattle.traversal.specs.Walked.{walked}
use Rattle.nearest.specs.Lent.{near_rooms_of}
use Rattle.nearest.specs.Executed.{Outcome, outcome_of, executed}
use Rattle.std.specs.Prelude.{Result, Ok, Err}
use Rattle.written.specs.NodePairs.{Side, left_side, right_side, on_side, tree_of}
use Rattle.cursor.specs.declared.lent.Side.TheVariants.{Left, Right}
use Rattle.cursor.specs.declared.lent.Tree.{Tree as HeldTree}
use Rattle.cursor.specs.declared.lent.Trees.{Trees as HeldTrees}
use Rattle.cursor.specs.Lent.{lent_tree, lent_trees}
use Rattle.tree.specs.declared.Rule.{Rule}
use Rattle.tree.specs.declared.Rule.TheVariants.{Axes, Sizes, Lengths, Starts, Coords, Pivots, Order}
use Rattle.tree.specs.Told.{told}
use Rattle.join.specs.declared.answer.Refusal.{Refusal}
use Rattle.join.specs.declared.answer.Refusal.TheVariants.{Tree}
use Rattle.join.specs.Checking.{SideTold, side_kept, side_broken, CheckTold, both_kept, one_broken}
use Rattle.join.specs.Answering.{Held}
use Rattle.join.specs.Answering.{answer_of}
use Rattle.join.specs.Told.{with_rooms, with_near_rooms, PairsTold, CountsTold, NearestTold}
use Rattle.join.specs.Onward.{pairs_differ, pairs_walk, counts_walked, counts_walk, nearest_differ, nearest_short, nearest_walk}

-- ---- the check's two numbers, as the code holds them

module _ (j : Trees) where
  pub left_refused : {n : ℕ} → n ≡ left_refusal j → 0 < n → TreeRefused j n 0
  left_refused {n = zero} e h = absurd (omega arith)
  left_refused {n = suc n} e h = left_broken (subst (FirstBroken j.axes j.left) (sym e) (refusal_is_first j.axes j.left))

  pub right_refused : {l n : ℕ} → l ≡ left_refusal j → l ≡ 0 → n ≡ right_refusal j → 0 < n → TreeRefused j n 1
  right_refused {n = zero} e z f h = absurd (omega arith)
  right_refused {n = suc n} e z f h =
      right_broken (subst (FirstBroken j.axes j.left) (sym e ∙ z) (refusal_is_first j.axes j.left)) (subst (FirstBroken j.axes j.right) (sym f) (refusal_is_first j.axes j.right))

  pub accepts : {l r : ℕ} → l ≡ left_refusal j → l ≡ 0 → r ≡ right_refusal j → r ≡ 0 → Accepts j
  accepts e y f z = (sym e ∙ y, sym f ∙ z)

-- the rooms agree, as the walk asks it
pub same_rooms : (b : PairRooms) → pair_rooms_agree b ≡ true → SameRooms b.lefts b.rights b.distances
same_rooms b e = let a = (rooms_agree b).0 e in (a.0, a.0 ∙ a.1)

-- ---- the check of both trees

module _ (j : Trees) where
  -- a number below ten is above none
  rule_some : (r : Rule) → 0 < told (Err r)
  rule_some Axes = omega arith
  rule_some Sizes = omega arith
  rule_some Lengths = omega arith
  rule_some Starts = omega arith
  rule_some Coords = omega arith
  rule_some Pivots = omega arith
  rule_some Order = omega arith

  pub left_told : {u : Result Unit Refusal} → SideTold j Left u → (r : Refusal) → u ≡ Err r → CheckTold j (Err r)
  left_told (side_kept e) r k = absurd (let z : ◌≡◌ {A = ℕ} 0 1 = cc in omega arith)
  left_told (side_broken rule e) r k = subst (CheckTold j) k (one_broken (Tree Left rule) _ _ refl (left_refused j e (rule_some rule)))

  pub both_told : {u v : Result Unit Refusal} → SideTold j Left u → u ≡ Ok tt → SideTold j Right v → CheckTold j v
  both_told (side_kept e) k (side_kept f) = both_kept (e, f)
  both_told (side_kept e) k (side_broken rule f) = one_broken (Tree Right rule) _ _ refl (right_refused j (sym e) refl f (rule_some rule))
  both_told (side_broken rule e) k s = absurd (let z : ◌≡◌ {A = ℕ} 0 1 = cc in omega arith)

  pub both_accepted : {u : Unit {0}} → CheckTold j (Ok u) → Accepts j
  both_accepted (both_kept a) = a

-- the tree that is lent on a side
pub side_tree : (t : HeldTrees) (x : Side) {u : HeldTree} → u ≡ on_side x t.left t.right → lent_tree u ≡ tree_of (lent_trees t) x
side_tree t left_side e = ap lent_tree e
side_tree t right_side e = ap lent_tree e

-- a call that fills rooms and goes on with `rest`: where a tree is refused, the rooms are as they were
tree_refused : {Rooms : Type 0} (j : Trees) (b : Rooms) (rest : Answer × Rooms) (a : Held) {n s : ℕ} → answer_of a ≡ refused n s → TreeRefused j n s
    → (answer_of a, b) ≡ checked (λ n s. (refused n s, b)) (left_refusal j) (right_refusal j) rest
tree_refused j b rest a e t = ap (λ (x : Answer). (x, b)) e ∙ sym (on_refused j (λ n s. (refused n s, b)) rest t)

-- ---- the number that pairs are told by, after the walk

pub room_enough : (n room : ℕ) → n ≤ room → 0 ≡ room_number n room
room_enough n room h = rw (le-leb n room h) refl

pub room_short : (n room : ℕ) → room < n → 9 ≡ room_number n room
room_short n room h = rw (lt-leb n room h) refl

-- ---- pairs

module _ (j : Trees) (edge : Edge) (radius : Float) (b : PairRooms) where
  -- the rooms as they were
  abbrev Untouched : Held → Type 0
  Untouched a = PairsTold j edge radius b (with_rooms a b.lefts b.rights b.distances)

  pub pairs_refused : (a : Held) {n s : ℕ} → answer_of a ≡ refused n s → TreeRefused j n s → Untouched a
  pairs_refused a e t = tree_refused j b (pairs_in j edge radius b (pair_rooms_agree b)) a e t

  pub pairs_checked : (r : Refusal) → CheckTold j (Err r) → Untouched (Err r)
  pairs_checked r (one_broken q n s e t) = pairs_refused (Err r) e t

  pub rooms_refused : (a : Held) → answer_of a ≡ refused 8 0 → Accepts j → pair_rooms_agree b ≡ false → Untouched a
  rooms_refused a e ok d = ap (λ (x : Answer). (x, b)) e ∙ sym (pairs_differ j edge radius b ok d)

  -- the walk counted t and left these rooms
  pub pairs_told : (a : Held) {t : Tally} {n : ℕ} {lefts rights : List ℕ} {distances : List Float} → answer_of a ≡ answered n t.found (totals_held t) → Accepts j → pair_rooms_agree b ≡ true
      → n ≡ room_number t.found (length distances) → length distances ≡ length b.distances
      → work_of t lefts rights distances ≡ walked j edge radius false b
      → PairsTold j edge radius b (with_rooms a lefts rights distances)
  pairs_told a {t = t} {lefts = lefts} {rights = rights} {distances = distances} e ok d f g w =
      let numbered = ap (λ (m : ℕ). answered m t.found (totals_held t)) (f ∙ ap (room_number t.found) g) in
      ap (λ (x : Answer). (x, rooms_of lefts rights distances)) (e ∙ numbered)
      ∙ ap (λ (x : Work). (answered (room_number x.fill.found (length b.distances)) x.fill.found x.totals, x.fill.rooms)) w
      ∙ sym (pairs_walk j edge radius b ok d)

-- ---- counts

module _ (j : Trees) (edge : Edge) (radius : Float) where
  pub counts_refused : (a : Held) {n s : ℕ} → answer_of a ≡ refused n s → TreeRefused j n s → CountsTold j edge radius a
  counts_refused a e t = e ∙ sym (on_refused j refused (counts_walked j edge radius) t)

  pub counts_checked : (r : Refusal) → CheckTold j (Err r) → CountsTold j edge radius (Err r)
  counts_checked r (one_broken q n s e t) = counts_refused (Err r) e t

  pub counts_told : (a : Held) {t : Tally} {lefts rights : List ℕ} {distances : List Float} {b : PairRooms} → answer_of a ≡ answered 0 t.found (totals_held t) → Accepts j
      → work_of t lefts rights distances ≡ walked j edge radius true b
      → CountsTold j edge radius a
  counts_told a e ok w = e ∙ ap (λ (x : Work). answered 0 x.fill.found x.totals) w ∙ sym (counts_walk j edge radius ok)

-- ---- nearest

module _ (j : Trees) (b : NearRooms) where
  abbrev Unwritten : Held → Type 0
  Unwritten a = NearestTold j b (with_near_rooms a b.items b.distances)

  pub nearest_refused : (a : Held) {n s : ℕ} → answer_of a ≡ refused n s → TreeRefused j n s → Unwritten a
  nearest_refused a e t = tree_refused j b (nearest_in j b (near_rooms_agree b) (near_room_ok j b)) a e t

  pub nearest_checked : (r : Refusal) → CheckTold j (Err r) → Unwritten (Err r)
  nearest_checked r (one_broken q n s e t) = nearest_refused (Err r) e t

  pub near_rooms_refused : (a : Held) → answer_of a ≡ refused 8 0 → Accepts j → near_rooms_agree b ≡ false → Unwritten a
  near_rooms_refused a e ok d = ap (λ (x : Answer). (x, b)) e ∙ sym (nearest_differ j b ok d)

  pub near_room_refused : (a : Held) → answer_of a ≡ refused 9 0 → Accepts j → near_rooms_agree b ≡ true → near_room_ok j b ≡ false → Unwritten a
  near_room_refused a e ok d f = ap (λ (x : Answer). (x, b)) e ∙ sym (nearest_short j b ok d f)

  -- the walk counted t and left these rooms
  pub nearest_told : (a : Held) {t : Tally} {items : List ℕ} {distances : List Float} → answer_of a ≡ answered 0 t.found (totals_held t) → Accepts j → near_rooms_agree b ≡ true → near_room_ok j b ≡ true
      → outcome_of t items distances ≡ executed j b
      → NearestTold j b (with_near_rooms a items distances)
  nearest_told a {items = items} {distances = distances} e ok d f w =
      ap (λ (x : Answer). (x, near_rooms_of items distances)) e
      ∙ ap (λ (x : Outcome). (answered 0 x.written x.totals, x.rooms)) w
      ∙ sym (nearest_walk j b ok d f)
