-- The whole call: nothing where a tree holds no points; else the walk's answers from item 0 and +inf on, one for each left place, and the rooms beyond them as they were. Assumes nothing.
use mathlib.Core.Path.{◌≡◌, refl, sym, ap, ap₂, ◌∙◌}
use mathlib.Core.Logic.{◌≢◌}
use mathlib.Core.Bool.{Bool, true, false, ◌||◌}
use mathlib.Core.List.{List, [], ◌∷◌, ◌++◌, map}
use Prim.Native.Nat.{ℕ, ◌≤◌}
use native.Mathlib.Omega.{arith}
use lib.ListN.{length, take, drop, replicate}
use lib.Seq.{length-take-le, take-nil}
use lib.Dec.{eqb, leb}
use lib.Ieee.{Float}
use Rattle.written.specs.LentTree.{places}
use Rattle.written.specs.Boxes.{Trees}
use Rattle.written.specs.Nearest.{Neighbour, unset, no_points, nearest}
use Rattle.written.specs.Totals.{Totals, none, near_totals}
use Rattle.written.specs.Answers.{Accepts, near_rooms_agree, near_room_ok, stored}
use Rattle.written.proofs.Right.{nearest_for_each}
use Rattle.written.proofs.Laws.Tests.{equal, at_most}
use Rattle.written.proofs.Laws.Rooms.{stored_all}
use Rattle.written.proofs.Laws.Points.{has_points}
use Rattle.leafnearest.specs.Answers.{answers}
use Rattle.steps.specs.declared.tally.Tally.{Tally}
use Rattle.steps.specs.Counted.{totals_held}
use Rattle.nearvisit.specs.Held.{Held, held_of}
use Rattle.nearest.specs.Lent.{near_rooms_of}
use Rattle.nearest.specs.Walked.{walked}
use Rattle.nearest.specs.Executed.{Outcome, outcome_of, executed}
use Rattle.nearest.proofs.FirstPlaces.{length_first, first_again, rest_stays}

outcome_is : {f g : ℕ} {items more : List ℕ} {dists far : List Float} {t u : Totals} → f ≡ g → items ≡ more → dists ≡ far → t ≡ u → ◌≡◌ {A = Outcome} (record { written = f; rooms = near_rooms_of items dists; totals = t }) (record { written = g; rooms = near_rooms_of more far; totals = u })
outcome_is a b c d = rw (a, b, c, d) refl

-- ---- a tree holds no points

or_true : (b : Bool) → (b || true) ≡ true
or_true true = refl
or_true false = refl

pub left_empty : (j : Trees) → places j.left ≡ 0 → no_points j ≡ true
left_empty j e = rw e refl

pub right_empty : (j : Trees) → places j.right ≡ 0 → no_points j ≡ true
right_empty j e = rw e (or_true (eqb (places j.left) 0))

nothing_stored : {X : Type 0} (l : List X) → stored [] l ≡ l
unfolding stored
nothing_stored l = rw (take-nil (length l)) refl

module _ (j : Trees) (e : no_points j ≡ true) where
  none_answered : nearest j ≡ []
  unfolding nearest
  none_answered = rw e

  none_visited : near_totals j ≡ none
  unfolding near_totals
  none_visited = rw e

  pub nothing_done : (t : Tally) (items : List ℕ) (dists : List Float) → t.found ≡ 0 → totals_held t ≡ none → outcome_of t items dists ≡ executed j (near_rooms_of items dists)
  nothing_done t items dists f g = rw (none_answered, none_visited, nothing_stored items, nothing_stored dists, f, g) refl

-- ---- items and distances of the answers

items_of : (items : List ℕ) (dists : List Float) → length items ≡ length dists → map (λ (x : Neighbour). x.item) (answers items dists) ≡ items
items_of [] dists e = refl
items_of (x ∷ items) [] e = absurd (omega arith)
items_of (x ∷ items) (d ∷ dists) e = ap {B = List ℕ} (λ l. x ∷ l) (items_of items dists (omega arith))

distances_of : (items : List ℕ) (dists : List Float) → length items ≡ length dists → map (λ (x : Neighbour). x.distance) (answers items dists) ≡ dists
distances_of [] [] e = refl
distances_of [] (d ∷ dists) e = absurd (omega arith)
distances_of (x ∷ items) [] e = absurd (omega arith)
distances_of (x ∷ items) (d ∷ dists) e = ap {B = List Float} (λ l. d ∷ l) (distances_of items dists (omega arith))

-- ---- both trees hold points

module _ (j : Trees) (left : places j.left ≢ 0) (right : places j.right ≢ 0) where
  -- the left places
  abbrev n : ℕ
  n = places j.left

  pub points : no_points j ≡ false
  points = has_points j 0 0 (omega arith) (omega arith)

  -- both rooms hold an answer for each left place
  pub room_for_all : (items : List ℕ) (dists : List Float) → near_rooms_agree (near_rooms_of items dists) ≡ true → near_room_ok j (near_rooms_of items dists) ≡ true → (n ≤ length items) × (n ≤ length dists)
  room_for_all items dists a h =
      let same : length items ≡ length dists = (equal (length items) (length dists)).0 a in
      let held : n ≤ length dists = (at_most n (length dists)).0 (sym (ap (λ (b : Bool). b || leb n (length dists)) points) ∙ h) in
      (omega arith, held)

  -- what the walk left in the first places of the rooms is all that is stored there
  all_written : Accepts j → (items new : List ℕ) (dists near : List Float) (t : Tally) → (n ≤ length items) × (n ≤ length dists) → length new ≡ length near → held_of t new near ≡ walked j
      → outcome_of (record { found = n; visits = t.visits; measured = t.measured; ruled = t.ruled; whole = t.whole }) (new ++ drop n items) (near ++ drop n dists) ≡ executed j (near_rooms_of items dists)
  all_written ok items new dists near t room same done =
      let many : length (nearest j) ≡ n = nearest_for_each j ok (omega arith) (omega arith) in
      let found : answers new near ≡ nearest j = ap (λ (w : Held). w.answers) done in
      let counts : totals_held t ≡ near_totals j = ap (λ (w : Held). w.totals) done in
      let in_items : stored (map (λ (x : Neighbour). x.item) (nearest j)) items ≡ new ++ drop n items = stored_all (λ x. x.item) (nearest j) items (omega (arith, room.0)) ∙ ap₂ (λ (l : List ℕ) (m : ℕ). l ++ drop m items) (ap (map (λ (x : Neighbour). x.item)) (sym found) ∙ items_of new near same) many in
      let in_dists : stored (map (λ (x : Neighbour). x.distance) (nearest j)) dists ≡ near ++ drop n dists = stored_all (λ x. x.distance) (nearest j) dists (omega (arith, room.1)) ∙ ap₂ (λ (l : List Float) (m : ℕ). l ++ drop m dists) (ap (map (λ (x : Neighbour). x.distance)) (sym found) ∙ distances_of new near same) many in
      outcome_is (sym many) (sym in_items) (sym in_dists) counts

  -- the rooms' first places are cleared, then the walk starts from there
  module _ (items first : List ℕ) (dists far : List Float) (room : (n ≤ length items) × (n ≤ length dists)) (e : length first ≡ length (take n items)) (f : length far ≡ length (take n dists)) where
    again : take n (first ++ drop n items) ≡ first
    again = first_again n items first room.0 e

    again_far : take n (far ++ drop n dists) ≡ far
    again_far = first_again n dists far room.1 f

    pub began : answers first far ≡ replicate (length (take n items)) unset → answers (take n (first ++ drop n items)) (take n (far ++ drop n dists)) ≡ replicate n unset
    began cleared = ap₂ answers again again_far ∙ cleared ∙ ap (λ (m : ℕ). replicate m unset) (length-take-le n items room.0)

    pub call_done : Accepts j → (new : List ℕ) (near : List Float) (t : Tally) → length new ≡ length (take n (first ++ drop n items)) → length near ≡ length (take n (far ++ drop n dists)) → held_of t new near ≡ walked j
        → outcome_of (record { found = n; visits = t.visits; measured = t.measured; ruled = t.ruled; whole = t.whole }) (new ++ drop n (first ++ drop n items)) (near ++ drop n (far ++ drop n dists)) ≡ executed j (near_rooms_of items dists)
    call_done ok new near t g h done =
        let same : length new ≡ length near = g ∙ ap length again ∙ length_first n items first room.0 e ∙ sym (h ∙ ap length again_far ∙ length_first n dists far room.1 f) in
        rw (rest_stays n items first room.0 e, rest_stays n dists far room.1 f) (all_written ok items new dists near t room same done)
