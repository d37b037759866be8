-- Which refusals of the library's a job can reach: those of a tree's contents, 4 to 7, and 9. Sizes and lengths are what the counts say, and the rooms are alike, so 2, 3 and 8 are not among them. Assumes nothing.
use Rattle.std.specs.Prelude.{◌≡◌, refl, List, Bool, true, false, cond, ℕ, zero, suc, ◌+◌, ◌*◌, ◌≤◌, length, leb, eqb, Float}
use Rattle.std.proofs.Common.{sym, ap, subst, ◌∙◌, arith}
use Rattle.std.proofs.lemmas.List.{length-replicate}
use Rattle.std.specs.Float.Ieee.{of_bits}
use Rattle.std.specs.Float.{binary64}
use Rattle.written.specs.LentTree.{Tree, places, leaves, stem_count}
use Rattle.written.specs.Boxes.{Edge}
use Rattle.written.specs.Check.{axes_ok, sizes_ok, lengths_ok, starts_ok, coords_ok, pivots_ok, order_ok, refusal}
use Rattle.written.specs.Answers.{Answer, PairRooms, NearRooms, pairs_call, counts_call, nearest_call}
use Rattle.written.specs.Calls.{TreeRefused, left_broken, right_broken, PairsAnswer, pairs_tree_refused, pairs_rooms_differ, pairs_all_fit, pairs_some_fit}
use Rattle.written.specs.Calls.{NearestAnswer, nearest_tree_refused, nearest_rooms_differ, nearest_room_short, nearest_no_points, nearest_written}
use Rattle.written.specs.Calls.{CountsAnswer, counts_tree_refused, counts_told}
use Rattle.written.proofs.Answered.{pairs_mean, counts_mean, nearest_means}
use Rattle.written.proofs.Checked.{refusal_is_first, first_is_one}
use Rattle.written.proofs.Laws.Tests.{both, three, at_most, equal}
use Rattle.reading.specs.Little.{in_a_row, numbers, floats}
use Rattle.reading.specs.Trees.{leaf_count, point_count, starts_at, stems_at, items_at, coords_at, tree_end, tree_fits, tree_at}
use Rattle.reading.specs.Laws.{ends}
use Rattle.reading.specs.Header.{mark_ok, version_ok, mode_ok, axes, trees, right_at, size_ok, length_ok, unless, header_refusal, then_length, job_refusal}
use Rattle.job.specs.Printed.{blank, blank_distances, pair_rooms, near_rooms}

-- the number of an answer that a job can be given
pub data Reached : ℕ → Type 0 where
  answered : Reached 0
  of_a_tree : (n : ℕ) → 4 ≤ n → n ≤ 7 → Reached n
  of_the_room : Reached 9

-- ---- a tree whose first three rules are kept

four_on : (b₄ b₅ b₆ b₇ : Bool) → Reached (cond b₄ (cond b₅ (cond b₆ (cond b₇ 0 7) 6) 5) 4)
four_on false b₅ b₆ b₇ = of_a_tree 4 (omega arith) (omega arith)
four_on true false b₆ b₇ = of_a_tree 5 (omega arith) (omega arith)
four_on true true false b₇ = of_a_tree 6 (omega arith) (omega arith)
four_on true true true false = of_a_tree 7 (omega arith) (omega arith)
four_on true true true true = answered

module _ (K : ℕ) (t : Tree) (a : axes_ok K t ≡ true) (b : sizes_ok K t ≡ true) (c : lengths_ok K t ≡ true) where
  refusal_reached : Reached (refusal K t)
  unfolding refusal
  refusal_reached = rw (a, b, c) (four_on (starts_ok K t) (coords_ok K t) (pivots_ok K t) (order_ok K t))

-- ---- a tree that lies in a job

length_row : {A : Type 0} (w : ℕ) (value : ℕ → A) (at n : ℕ) → length (in_a_row w value at n) ≡ n
unfolding in_a_row
length_row w value at zero = refl
length_row w value at (suc n) = ap suc (length_row w value (at + w) n)

length_numbers : (s : List ℕ) (at n : ℕ) → length (numbers s at n) ≡ n
length_numbers s = length_row 4 _

length_floats : (s : List ℕ) (at n : ℕ) → length (floats s at n) ≡ n
length_floats s = length_row 8 _

module _ (s : List ℕ) (at K : ℕ) (small : length s ≤ 16384) (fits : tree_fits s at K ≡ true) where
  abbrev t : Tree
  t = tree_at s at K

  starts_number : length t.starts ≡ suc (leaf_count s at)
  starts_number = length_numbers s (starts_at s at) (suc (leaf_count s at))

  items_number : places t ≡ point_count s at
  items_number = length_numbers s (items_at s at) (point_count s at)

  sizes_kept : sizes_ok K t ≡ true
  sizes_kept =
      let n = length t.starts in
      let some : 1 ≤ n = omega (arith, starts_number) in
      let few : n ≤ 4097 = omega (arith, starts_number, ends K s at fits) in
      let held : places t ≤ 65536 = omega (arith, items_number, ends K s at fits) in
      (three (leb 1 n) (leb n 4097) (leb (places t) 65536)).1 ((at_most 1 n).1 some, (at_most n 4097).1 few, (at_most (places t) 65536).1 held)

  lengths_kept : lengths_ok K t ≡ true
  lengths_kept =
      let m : leaves t ≡ leaf_count s at = omega (arith, starts_number) in
      (both _ _).1 ((equal _ _).1 (length_floats s (stems_at s at) (stem_count (leaf_count s at)) ∙ ap stem_count (sym m)), (equal _ _).1 (length_floats s (coords_at s at) (K * point_count s at) ∙ ap (λ (n : ℕ). K * n) (sym items_number)))

  tree_reached : axes_ok K t ≡ true → Reached (refusal K t)
  tree_reached a = refusal_reached K t a sizes_kept lengths_kept

-- ---- a job that is not refused before the trees are checked

by_rule : (size mark version mode axes : Bool) → unless size 21 (unless mark 22 (unless version 23 (unless mode 24 (unless axes 1 0)))) ≡ 0 → (size ≡ true) × (axes ≡ true)
by_rule true true true true true e = (refl, refl)
by_rule true true true true false e = absurd (omega arith)
by_rule true true true false a e = absurd (omega arith)
by_rule true true false m a e = absurd (omega arith)
by_rule true false v m a e = absurd (omega arith)
by_rule false k v m a e = absurd (omega arith)

by_length : (n : ℕ) (s : List ℕ) → then_length n s ≡ 0 → (n ≡ 0) × (unless (length_ok s) 25 0 ≡ 0)
by_length zero s e = (refl, e)
by_length (suc n) s e = absurd (omega arith)

length_kept : (ok : Bool) → unless ok 25 0 ≡ 0 → ok ≡ true
length_kept true e = refl
length_kept false e = absurd (omega arith)

module _ (s : List ℕ) (accepted : job_refusal s ≡ 0) where
  decided : (header_refusal s ≡ 0) × (unless (length_ok s) 25 0 ≡ 0)
  unfolding job_refusal
  decided = by_length (header_refusal s) s accepted

  rules : (size_ok s ≡ true) × (axes_ok (axes s) (trees s).left ≡ true)
  unfolding header_refusal
  rules = by_rule (size_ok s) (mark_ok s) (version_ok s) (mode_ok s) _ decided.0

  small : length s ≤ 16384
  small = (at_most (length s) 16384).0 ((both (leb 16 (length s)) (leb (length s) 16384)).0 rules.0).1

  parts : (tree_fits s 16 (axes s) ≡ true) × (tree_fits s (right_at s) (axes s) ≡ true) × (eqb (tree_end s (right_at s) (axes s)) (length s) ≡ true)
  parts = (three _ _ _).0 (length_kept (length_ok s) decided.1)

  of_refusal : {n side : ℕ} → TreeRefused (trees s) n side → Reached n
  of_refusal (left_broken f) = subst Reached (first_is_one _ _ (refusal_is_first _ _) f) (tree_reached s 16 (axes s) small parts.0 rules.1)
  of_refusal (right_broken k f) = subst Reached (first_is_one _ _ (refusal_is_first _ _) f) (tree_reached s (right_at s) (axes s) small parts.1 rules.1)

  -- 1,024 places each
  alike : length blank ≡ length blank_distances
  alike = length-replicate {A = ℕ} 1024 0 ∙ sym (length-replicate 1024 (of_bits binary64 0))

  reached_by_pairs : (edge : Edge) (r : Float) {x : Answer × PairRooms} → PairsAnswer (trees s) edge r pair_rooms x → Reached x.0.number
  reached_by_pairs edge r (pairs_tree_refused t) = of_refusal t
  reached_by_pairs edge r (pairs_rooms_differ ok d) = absurd (d (refl, alike))
  reached_by_pairs edge r (pairs_all_fit ok a h) = answered
  reached_by_pairs edge r (pairs_some_fit ok a h) = of_the_room

  reached_by_counts : (edge : Edge) (r : Float) {x : Answer} → CountsAnswer (trees s) edge r x → Reached x.number
  reached_by_counts edge r (counts_tree_refused t) = of_refusal t
  reached_by_counts edge r (counts_told ok) = answered

  reached_by_nearest : {x : Answer × NearRooms} → NearestAnswer (trees s) near_rooms x → Reached x.0.number
  reached_by_nearest (nearest_tree_refused t) = of_refusal t
  reached_by_nearest (nearest_rooms_differ ok d) = absurd (d alike)
  reached_by_nearest (nearest_room_short ok a e h) = of_the_room
  reached_by_nearest (nearest_no_points ok a e) = answered
  reached_by_nearest (nearest_written ok a e h) = answered

  pub pairs_reached : (edge : Edge) (r : Float) → Reached (pairs_call (trees s) edge r pair_rooms).0.number
  pairs_reached edge r = reached_by_pairs edge r ((pairs_mean (trees s) edge r pair_rooms _).1 refl)

  pub counts_reached : (edge : Edge) (r : Float) → Reached (counts_call (trees s) edge r).number
  counts_reached edge r = reached_by_counts edge r ((counts_mean (trees s) edge r _).1 refl)

  pub nearest_reached : Reached (nearest_call (trees s) near_rooms).0.number
  nearest_reached = reached_by_nearest ((nearest_means (trees s) near_rooms _).1 refl)
