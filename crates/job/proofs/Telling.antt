-- What a call leaves in its rooms, printed place by place, is the text that document 01 gives. Assumes nothing.
use mathlib.Core.Path.{◌≡◌, refl, sym, ap, ap₂, subst, ◌∙◌}
use mathlib.Core.List.{List, [], ◌∷◌, ◌++◌, map}
use mathlib.Core.Bool.{true, false}
use Prim.Native.Nat.{ℕ, ◌≤◌}
use native.Mathlib.Omega.{arith}
use lib.ListN.{length, take, drop, length-map, length-replicate}
use lib.Seq.{take_at, take_all}
use lib.Ieee.{Float, of_bits, binary64}
use Rattle.written.specs.LentTree.{places}
use Rattle.written.specs.Boxes.{Trees, Edge}
use Rattle.written.specs.RadiusWalk.{Found, found}
use Rattle.written.specs.Nearest.{Neighbour, nearest, no_points}
use Rattle.written.specs.Totals.{none, walk_totals, near_totals}
use Rattle.written.specs.Answers.{Answer, answered, PairRooms, NearRooms}
use Rattle.written.specs.Calls.{left_broken, right_broken, PairsAnswer, pairs_tree_refused, pairs_rooms_differ, pairs_all_fit, pairs_some_fit}
use Rattle.written.specs.Calls.{NearestAnswer, nearest_tree_refused, nearest_rooms_differ, nearest_room_short, nearest_no_points, nearest_written}
use Rattle.written.proofs.Answered.{pairs_mean, nearest_means}
use Rattle.written.proofs.Right.{nearest_for_each}
use Rattle.written.proofs.Laws.Points.{both_hold}
use Rattle.printing.specs.Text.{pairs_word, count_word, nearest_word}
use Rattle.printing.specs.Rows.{rows}
use Rattle.printing.specs.Columns.{rows_of}
use Rattle.join.specs.Answering.{Held, answer_of}
use Rattle.join.specs.Told.{PairsTold, CountsTold, NearestTold, with_rooms, with_near_rooms}
use Rattle.job.specs.Printed.{blank, blank_distances, pair_rooms, near_rooms, answer_text, neighbours, pairs_text, counts_text, nearest_text}
use Rattle.job.specs.Shown.{lines_by, lines_of}

-- a column whose first places hold one part of a list
column : {X Y : Type 0} (part : X → Y) (l : List X) (rest : List Y) → take (length l) (map part l ++ rest) ≡ map part l
column part l rest = take_at (map part l) rest (length l) (length-map l part)

-- 1,024 places
roomy : {n : ℕ} → n ≤ length blank_distances → n ≤ 1024
roomy h = omega (arith, h, length-replicate 1024 (of_bits binary64 0))

-- ---- pairs

module _ (j : Trees) (edge : Edge) (r : Float) where
  abbrev PairsShown : Answer × PairRooms → Type 0
  PairsShown x =
      (answer_text pairs_word x.0 (rows (lines_by x.0.number x.0.found) x.1.lefts x.1.rights x.1.distances) ≡ answer_text pairs_word x.0 (found j edge r))
      × (lines_by x.0.number x.0.found ≤ 1024)

  pairs_shown : {x : Answer × PairRooms} → PairsAnswer j edge r pair_rooms x → PairsShown x
  pairs_shown (pairs_tree_refused (left_broken f)) = (refl, omega arith)
  pairs_shown (pairs_tree_refused (right_broken k f)) = (refl, omega arith)
  pairs_shown (pairs_rooms_differ ok d) = (refl, omega arith)
  pairs_shown (pairs_all_fit ok a h) =
      let l = found j edge r in
      let e = rows_of l _ _ _ (column (λ x. x.left) l (drop (length l) blank)) (column (λ x. x.right) l (drop (length l) blank)) (column (λ x. x.distance) l (drop (length l) blank_distances)) in
      (ap (answer_text pairs_word (answered 0 (length l) (walk_totals j edge r false))) e, roomy h)
  pairs_shown (pairs_some_fit ok a h) = (refl, omega arith)

  module _ (a : Held) (lefts rights : List ℕ) (distances : List Float) (told : PairsTold j edge r pair_rooms (with_rooms a lefts rights distances)) where
    here : PairsShown (answer_of a, (with_rooms a lefts rights distances).rooms)
    here = pairs_shown ((pairs_mean j edge r pair_rooms _).1 told)

    module _ {n : ℕ} (shown : n ≡ lines_of a) where
      pub pairs_few : n ≤ 1024
      pairs_few = rw shown here.1

      pub pairs_told : answer_text pairs_word (answer_of a) (rows n lefts rights distances) ≡ pairs_text j edge r
      unfolding pairs_text
      pairs_told = rw shown (here.0 ∙ ap (λ (x : Answer × PairRooms). answer_text pairs_word x.0 (found j edge r)) told)

  -- ---- counts

  pub counts_told : (a : Held) (lefts rights : List ℕ) (distances : List Float) → CountsTold j edge r a → answer_text count_word (answer_of a) (rows 0 lefts rights distances) ≡ counts_text j edge r
  unfolding counts_text rows
  counts_told a lefts rights distances told = ap (λ (x : Answer). answer_text count_word x []) told

-- ---- nearest

neighbours_lefts : (items : List ℕ) (l : List Neighbour) → length l ≡ length items → map (λ x. x.left) (neighbours items l) ≡ items
unfolding neighbours
neighbours_lefts [] [] e = refl
neighbours_lefts [] (x ∷ l) e = absurd (omega arith)
neighbours_lefts (i ∷ items) [] e = absurd (omega arith)
neighbours_lefts (i ∷ items) (x ∷ l) e = ap (◌∷◌ i) (neighbours_lefts items l (omega arith))

neighbours_part : {Y : Type 0} (part : Found → Y) (of : Neighbour → Y) → ((i : ℕ) (x : Neighbour) → part (record { left = i; right = x.item; distance = x.distance }) ≡ of x)
    → (items : List ℕ) (l : List Neighbour) → length l ≡ length items → map part (neighbours items l) ≡ map of l
unfolding neighbours
neighbours_part part of same [] [] e = refl
neighbours_part part of same [] (x ∷ l) e = absurd (omega arith)
neighbours_part part of same (i ∷ items) [] e = refl
neighbours_part {Y} part of same (i ∷ items) (x ∷ l) e = ap₂ (λ (y : Y) (z : List Y). y ∷ z) (same i x) (neighbours_part part of same items l (omega arith))

no_neighbours : (items : List ℕ) → neighbours items [] ≡ []
unfolding neighbours
no_neighbours [] = refl
no_neighbours (i ∷ items) = refl

none_nearest : (j : Trees) → no_points j ≡ true → nearest j ≡ []
unfolding nearest
none_nearest j e = rw e refl

-- the left items, the stored items and the stored distances are three columns of them
neighbour_rows : (items : List ℕ) (l : List Neighbour) (more : List ℕ) (further : List Float) → length l ≡ length items
    → rows (length items) items (map (λ x. x.item) l ++ more) (map (λ x. x.distance) l ++ further) ≡ neighbours items l
neighbour_rows items l more further e =
    let fs = neighbours items l in
    let lefts = neighbours_lefts items l e in
    let n : length fs ≡ length items = sym (length-map fs (λ x. x.left)) ∙ ap length lefts in
    let m : length l ≡ length fs = e ∙ sym n in
    subst (λ (k : ℕ). rows k items (map (λ x. x.item) l ++ more) (map (λ x. x.distance) l ++ further) ≡ fs) n
    (rows_of fs _ _ _
    (take_all (length fs) items (omega (arith, n)) ∙ sym lefts)
    (subst (λ (k : ℕ). take k (map (λ x. x.item) l ++ more) ≡ map (λ x. x.item) l) m (column (λ x. x.item) l more) ∙ sym (neighbours_part (λ x. x.right) (λ x. x.item) (λ i x. refl) items l e))
    (subst (λ (k : ℕ). take k (map (λ x. x.distance) l ++ further) ≡ map (λ x. x.distance) l) m (column (λ x. x.distance) l further) ∙ sym (neighbours_part (λ x. x.distance) (λ x. x.distance) (λ i x. refl) items l e)))

module _ (j : Trees) where
  abbrev NearestShown : Answer × NearRooms → Type 0
  NearestShown x =
      let items = j.left.items in
      (answer_text nearest_word x.0 (rows (lines_by x.0.number x.0.found) items x.1.items x.1.distances) ≡ answer_text nearest_word x.0 (neighbours items (nearest j)))
      × (lines_by x.0.number x.0.found ≤ 1024)
      × (lines_by x.0.number x.0.found ≤ length items)

  -- a tree without points
  no_lines : no_points j ≡ true → rows 0 j.left.items blank blank_distances ≡ neighbours j.left.items (nearest j)
  unfolding rows
  no_lines e = sym (ap (neighbours j.left.items) (none_nearest j e) ∙ no_neighbours j.left.items)

  nearest_shown : {x : Answer × NearRooms} → NearestAnswer j near_rooms x → NearestShown x
  nearest_shown (nearest_tree_refused (left_broken f)) = (refl, omega arith, omega arith)
  nearest_shown (nearest_tree_refused (right_broken k f)) = (refl, omega arith, omega arith)
  nearest_shown (nearest_rooms_differ ok d) = (refl, omega arith, omega arith)
  nearest_shown (nearest_room_short ok a e h) = (refl, omega arith, omega arith)
  nearest_shown (nearest_no_points ok a e) = (ap (answer_text nearest_word (answered 0 0 none)) (no_lines e), omega arith, omega arith)
  nearest_shown (nearest_written ok a e h) =
      let hold = both_hold j e in
      let each = nearest_for_each j ok hold.0 hold.1 in
      (ap (answer_text nearest_word (answered 0 (places j.left) (near_totals j))) (neighbour_rows j.left.items (nearest j) (drop (places j.left) blank) (drop (places j.left) blank_distances) each), roomy h, omega arith)

  module _ (a : Held) (items : List ℕ) (distances : List Float) (told : NearestTold j near_rooms (with_near_rooms a items distances)) where
    there : NearestShown (answer_of a, (with_near_rooms a items distances).rooms)
    there = nearest_shown ((nearest_means j near_rooms _).1 told)

    module _ {n : ℕ} (shown : n ≡ lines_of a) where
      pub nearest_few : (n ≤ 1024) × (n ≤ places j.left)
      nearest_few = rw shown (there.1, there.2)

      pub nearest_told : answer_text nearest_word (answer_of a) (rows n j.left.items items distances) ≡ nearest_text j
      unfolding nearest_text
      nearest_told = rw shown (there.0 ∙ ap (λ (x : Answer × NearRooms). answer_text nearest_word x.0 (neighbours j.left.items (nearest j))) told)
