-- Demand 1 of the definitions: each public call answers what 01's table says, and that is the only answer and the only content of the buffers that it permits. Assumes nothing.
use Rattle.std.specs.Prelude.{◌≡◌, ◌↔◌, List, [], Bool, true, false, ℕ, ◌≤◌, ◌<◌, length, eqb, Float}
use Rattle.std.proofs.Math.Path.{refl}
use Rattle.std.proofs.Common.{sym, ap, ◌∙◌, subst, arith}
use Rattle.std.proofs.Math.Decide.{dec_lt}
use Rattle.written.specs.LentTree.{places}
use Rattle.written.specs.Boxes.{Trees, Edge}
use Rattle.written.specs.RadiusWalk.{Found, found, count}
use Rattle.written.specs.Nearest.{nearest, no_points}
use Rattle.written.specs.Totals.{none, walk_totals, near_totals}
use Rattle.written.specs.Answers.{Answer, answered, refused, Accepts, PairRooms, pair_rooms_agree, pairs_in, pairs_call, counts_call, NearRooms, near_rooms_agree, near_stored, near_room_ok, nearest_in, nearest_call}
use Rattle.written.specs.Calls.{PairRoomsAgree, NearRoomsAgree, all_stored, first_stored, answers_stored, PairsAnswer, pairs_tree_refused, pairs_rooms_differ, pairs_all_fit, pairs_some_fit, CountsAnswer, counts_tree_refused, counts_told}
use Rattle.written.specs.Calls.{NearestAnswer, nearest_tree_refused, nearest_rooms_differ, nearest_room_short, nearest_no_points, nearest_written}
use Rattle.written.proofs.Right.{nearest_for_each}
use Rattle.written.proofs.Laws.Tests.{fails, not_both, both, at_most, exceeds, equal}
use Rattle.written.proofs.Laws.Checked.{on_refused, on_accepted, by_trees}
use Rattle.written.proofs.Laws.Rooms.{stored_all, stored_first}
use Rattle.written.proofs.Laws.Points.{both_hold}

-- ---- pairs

-- the test of rule 8 says that the rooms agree
pub rooms_agree : (b : PairRooms) → (pair_rooms_agree b ≡ true) ↔ PairRoomsAgree b
rooms_agree b =
    let e = equal (length b.lefts) (length b.rights) in
    let f = equal (length b.rights) (length b.distances) in
    let k = both (eqb (length b.lefts) (length b.rights)) (eqb (length b.rights) (length b.distances)) in
    (λ h. (e.0 (k.0 h).0, f.0 (k.0 h).1), λ h. k.1 (e.1 h.0, f.1 h.1))

module _ (j : Trees) (edge : Edge) (radius : Float) (b : PairRooms) where
  -- what is found, and how the call goes on where both trees are accepted
  abbrev list : List Found
  list = found j edge radius

  abbrev pairs_rest : Answer × PairRooms
  pairs_rest = pairs_in j edge radius b (pair_rooms_agree b)

  abbrev pairs_refused : ℕ → ℕ → Answer × PairRooms
  pairs_refused n s = (refused n s, b)

  pairs_differ : (PairRoomsAgree b → ⊥) → pairs_rest ≡ (refused 8 0, b)
  unfolding pairs_in
  pairs_differ n = rw (fails (pair_rooms_agree b) (λ e. n ((rooms_agree b).0 e))) refl

  pairs_all : PairRoomsAgree b → length list ≤ length b.distances → pairs_rest ≡ (answered 0 (length list) (walk_totals j edge radius false), all_stored list b)
  unfolding pairs_in
  pairs_all a h =
      rw
      ((rooms_agree b).1 a, (at_most (length list) (length b.distances)).1 h, stored_all (λ x. x.left) list b.lefts (omega arith), stored_all (λ x. x.right) list b.rights (omega arith), stored_all (λ x. x.distance) list b.distances h)
      refl

  pairs_first : PairRoomsAgree b → length b.distances < length list → pairs_rest ≡ (answered 9 (length list) (walk_totals j edge radius false), first_stored list b)
  unfolding pairs_in
  pairs_first a h =
      rw
      ((rooms_agree b).1 a, exceeds (length list) (length b.distances) h, stored_first (λ x. x.left) list b.lefts (omega arith), stored_first (λ x. x.right) list b.rights (omega arith), stored_first (λ x. x.distance) list b.distances (omega arith))
      refl

  pairs_only : {x : Answer × PairRooms} → PairsAnswer j edge radius b x → x ≡ pairs_call j edge radius b
  pairs_only (pairs_tree_refused t) = sym (on_refused j pairs_refused pairs_rest t)
  pairs_only (pairs_rooms_differ ok n) = sym (on_accepted j pairs_refused pairs_rest ok ∙ pairs_differ n)
  pairs_only (pairs_all_fit ok a h) = sym (on_accepted j pairs_refused pairs_rest ok ∙ pairs_all a h)
  pairs_only (pairs_some_fit ok a h) = sym (on_accepted j pairs_refused pairs_rest ok ∙ pairs_first a h)

  pairs_permitted : PairsAnswer j edge radius b (pairs_call j edge radius b)
  pairs_permitted =
      by_trees j pairs_refused pairs_rest (PairsAnswer j edge radius b) (λ n s t. pairs_tree_refused t) (λ ok. rooms ok (pair_rooms_agree b) refl (dec_lt (length b.distances) (length list)))
    where
      rooms : Accepts j → (x : Bool) → pair_rooms_agree b ≡ x → Dec (length b.distances < length list) → PairsAnswer j edge radius b pairs_rest
      rooms ok false e d = let n : PairRoomsAgree b → ⊥ = λ a. not_both ((rooms_agree b).1 a) e in subst (PairsAnswer j edge radius b) (sym (pairs_differ n)) (pairs_rooms_differ ok n)
      rooms ok true e (yes h) = subst (PairsAnswer j edge radius b) (sym (pairs_first ((rooms_agree b).0 e) h)) (pairs_some_fit ok ((rooms_agree b).0 e) h)
      rooms ok true e (no n) =
          let h : length list ≤ length b.distances = omega arith in
          subst (PairsAnswer j edge radius b) (sym (pairs_all ((rooms_agree b).0 e) h)) (pairs_all_fit ok ((rooms_agree b).0 e) h)

  -- what the table permits is the computed answer, with its buffers
  pub pairs_mean : (x : Answer × PairRooms) → PairsAnswer j edge radius b x ↔ (x ≡ pairs_call j edge radius b)
  pairs_mean x = (pairs_only, λ e. subst (PairsAnswer j edge radius b) (sym e) pairs_permitted)

  -- and nothing else: any two permitted results are equal
  pub pairs_one : {x y : Answer × PairRooms} → PairsAnswer j edge radius b x → PairsAnswer j edge radius b y → x ≡ y
  pairs_one p q = pairs_only p ∙ sym (pairs_only q)

-- ---- counts

module _ (j : Trees) (edge : Edge) (radius : Float) where
  abbrev counts_rest : Answer
  counts_rest = answered 0 (count j edge radius) (walk_totals j edge radius true)

  counts_only : {x : Answer} → CountsAnswer j edge radius x → x ≡ counts_call j edge radius
  counts_only (counts_tree_refused t) = sym (on_refused j refused counts_rest t)
  counts_only (counts_told ok) = sym (on_accepted j refused counts_rest ok)

  pub counts_mean : (x : Answer) → CountsAnswer j edge radius x ↔ (x ≡ counts_call j edge radius)
  counts_mean x = (counts_only, λ e. subst (CountsAnswer j edge radius) (sym e) (by_trees j refused counts_rest (CountsAnswer j edge radius) (λ n s t. counts_tree_refused t) counts_told))

  pub counts_one : {x y : Answer} → CountsAnswer j edge radius x → CountsAnswer j edge radius y → x ≡ y
  counts_one p q = counts_only p ∙ sym (counts_only q)

-- ---- nearest

module _ (j : Trees) (b : NearRooms) where
  abbrev n : ℕ
  n = places j.left

  abbrev near_rest : Answer × NearRooms
  near_rest = nearest_in j b (near_rooms_agree b) (near_room_ok j b)

  near_agree : (near_rooms_agree b ≡ true) ↔ NearRoomsAgree b
  near_agree = equal (length b.items) (length b.distances)

  -- the three outcomes of the rooms
  differ_is : (enough : Bool) → nearest_in j b false enough ≡ (refused 8 0, b)
  unfolding nearest_in
  differ_is enough = refl

  short_is : nearest_in j b true false ≡ (refused 9 0, b)
  unfolding nearest_in
  short_is = refl

  written_is : nearest_in j b true true ≡ (answered 0 (length (nearest j)) (near_totals j), near_stored (nearest j) b)
  unfolding nearest_in
  written_is = refl

  near_differ : (NearRoomsAgree b → ⊥) → near_rest ≡ (refused 8 0, b)
  near_differ d = rw (fails (near_rooms_agree b) (λ e. d (near_agree.0 e))) (differ_is (near_room_ok j b))

  near_short : NearRoomsAgree b → no_points j ≡ false → length b.distances < n → near_rest ≡ (refused 9 0, b)
  near_short a e h = rw (near_agree.1 a, e, exceeds n (length b.distances) h) short_is

  none_answered : no_points j ≡ true → nearest j ≡ []
  unfolding nearest
  none_answered e = rw e

  none_visited : no_points j ≡ true → near_totals j ≡ none
  unfolding near_totals
  none_visited e = rw e

  near_none : NearRoomsAgree b → no_points j ≡ true → near_rest ≡ (answered 0 0 none, b)
  near_none a e =
      rw
      (near_agree.1 a, e, written_is, stored_all (λ x. x.item) (nearest j) b.items (omega (arith, ap length (none_answered e))), stored_all (λ x. x.distance) (nearest j) b.distances (omega (arith, ap length (none_answered e))), none_answered e, none_visited e)
      refl

  near_written : Accepts j → NearRoomsAgree b → no_points j ≡ false → n ≤ length b.distances
      → near_rest ≡ (answered 0 n (near_totals j), answers_stored n (nearest j) b)
  near_written ok a e h =
      let s = both_hold j e in
      let k : length (nearest j) ≡ n = nearest_for_each j ok s.0 s.1 in
      rw
      (near_agree.1 a, e, (at_most n (length b.distances)).1 h, written_is, stored_all (λ x. x.item) (nearest j) b.items (omega arith), stored_all (λ x. x.distance) (nearest j) b.distances (omega arith), k)
      refl

  abbrev near_refused : ℕ → ℕ → Answer × NearRooms
  near_refused n s = (refused n s, b)

  near_only : {x : Answer × NearRooms} → NearestAnswer j b x → x ≡ nearest_call j b
  near_only (nearest_tree_refused t) = sym (on_refused j near_refused near_rest t)
  near_only (nearest_rooms_differ ok d) = sym (on_accepted j near_refused near_rest ok ∙ near_differ d)
  near_only (nearest_room_short ok a e h) = sym (on_accepted j near_refused near_rest ok ∙ near_short a e h)
  near_only (nearest_no_points ok a e) = sym (on_accepted j near_refused near_rest ok ∙ near_none a e)
  near_only (nearest_written ok a e h) = sym (on_accepted j near_refused near_rest ok ∙ near_written ok a e h)

  near_permitted : NearestAnswer j b (nearest_call j b)
  near_permitted =
      by_trees j near_refused near_rest (NearestAnswer j b) (λ m s t. nearest_tree_refused t) (λ ok. rooms ok (near_rooms_agree b) refl (no_points j) refl (dec_lt (length b.distances) n))
    where
      rooms : Accepts j → (x : Bool) → near_rooms_agree b ≡ x → (y : Bool) → no_points j ≡ y → Dec (length b.distances < n) → NearestAnswer j b near_rest
      rooms ok false e y f d = let k : NearRoomsAgree b → ⊥ = λ a. not_both (near_agree.1 a) e in subst (NearestAnswer j b) (sym (near_differ k)) (nearest_rooms_differ ok k)
      rooms ok true e true f d = subst (NearestAnswer j b) (sym (near_none (near_agree.0 e) f)) (nearest_no_points ok (near_agree.0 e) f)
      rooms ok true e false f (yes h) = subst (NearestAnswer j b) (sym (near_short (near_agree.0 e) f h)) (nearest_room_short ok (near_agree.0 e) f h)
      rooms ok true e false f (no k) =
          let h : n ≤ length b.distances = omega arith in
          subst (NearestAnswer j b) (sym (near_written ok (near_agree.0 e) f h)) (nearest_written ok (near_agree.0 e) f h)

  pub nearest_means : (x : Answer × NearRooms) → NearestAnswer j b x ↔ (x ≡ nearest_call j b)
  nearest_means x = (near_only, λ e. subst (NearestAnswer j b) (sym e) near_permitted)

  pub nearest_one : {x y : Answer × NearRooms} → NearestAnswer j b x → NearestAnswer j b y → x ≡ y
  nearest_one p q = near_only p ∙ sym (near_only q)
