-- The demands on pairs and counts, of any result that a promise permits: what refused trees get, right answers, and totals that account for each pair of places. Assumes nothing.
use Rattle.std.specs.Prelude.{◌≡◌, refl, Bool, true, false, ℕ, ◌+◌, ◌-◌, ◌*◌, ◌^◌, ◌≤◌, ◌<◌, length, take, drop, Float}
use Rattle.std.proofs.Common.{sym, ap, ◌∙◌, subst, arith}
use mathlib.Core.List.{List, ◌++◌, map, Permᴰ}
use Rattle.std.proofs.Math.Decide.{dec_lt}
use Rattle.std.proofs.lemmas.List.{length-map}
use Rattle.written.specs.LentTree.{places}
use Rattle.written.specs.Boxes.{Trees, Edge}
use Rattle.written.specs.NodePairs.{stem_levels}
use Rattle.written.specs.RadiusWalk.{Found, all_against_all, found}
use Rattle.written.specs.Totals.{Totals, none, walk_totals}
use Rattle.written.specs.Answers.{Answer, refused, checked, left_refusal, right_refusal, Accepts, PairRooms, pair_rooms_agree, stored, room_number, pairs_in}
use Rattle.written.specs.Calls.{TreeRefused, PairRoomsAgree}
use Rattle.written.proofs.Right.{found_is_rearrangement, count_is_its_length}
use Rattle.written.proofs.Accounted.{totals_add_up}
use Rattle.written.proofs.Limits.{visits_bounded, pairs_take_none_whole}
use Rattle.written.proofs.Answered.{rooms_agree}
use Rattle.written.proofs.Laws.Lists.{perm_length}
use Rattle.written.proofs.Laws.Tests.{fails, at_most, exceeds}
use Rattle.written.proofs.Laws.Checked.{by_trees}
use Rattle.join.specs.Answering.{Held, answer_of}
use Rattle.join.specs.Told.{Result, PairsTold, CountsTold}
use Rattle.join.specs.Onward.{pairs_walked, pairs_differ, pairs_walk, counts_walked, counts_walk}

-- ---- what each demand says

-- a tree is refused: the first rule broken and its side, nothing found, totals 0
pub record Refused (j : Trees) (a : Answer) : Type 0 where
  pub first_broken : TreeRefused j a.number a.side
  pub none_found : a.found ≡ 0
  pub no_totals : a.totals ≡ none

-- 9 exactly when more pass than the room holds, else 0
pub data Numbered (passing room : ℕ) : ℕ → Type 0 where
  all_fit : passing ≤ room → Numbered passing room 0
  some_fit : room < passing → Numbered passing room 9

-- the first that fit, and beyond them what was there
abbrev pub First : {X : Type 0} → (Found → X) → List Found → (before after : List X) → Type 0
First part l before after = after ≡ take (length before) (map part l) ++ drop (length l) before

-- all pairs are found, each once; the number tells whether they fit, and the first that fit are stored
pub record PairsRight (j : Trees) (edge : Edge) (radius : Float) (before : PairRooms) (a : Answer) (after : PairRooms) : Type 0 where
  pub rearranged : Permᴰ (found j edge radius) (all_against_all j edge radius)
  pub all_counted : a.found ≡ length (found j edge radius)
  pub number_right : Numbered a.found (length before.distances) a.number
  pub no_side : a.side ≡ 0
  pub lefts_stored : First (λ x. x.left) (found j edge radius) before.lefts after.lefts
  pub rights_stored : First (λ x. x.right) (found j edge radius) before.rights after.rights
  pub distances_stored : First (λ x. x.distance) (found j edge radius) before.distances after.distances

pub record CountsRight (j : Trees) (edge : Edge) (radius : Float) (a : Answer) : Type 0 where
  pub all_counted : a.found ≡ length (all_against_all j edge radius)
  pub no_number : a.number ≡ 0
  pub no_side : a.side ≡ 0

-- each total is the walk's own sum; the three add up, the visits are bounded, and only a count takes node pairs whole
pub record Accounted (j : Trees) (edge : Edge) (radius : Float) (counting : Bool) (t : Totals) : Type 0 where
  pub of_the_walk : t ≡ walk_totals j edge radius counting
  pub adding_up : t.measured + t.ruled_out + t.whole ≡ places j.left * places j.right
  pub few_visits : t.visits ≤ 2 ^ (stem_levels j + 1) - 1
  pub none_whole : counting ≡ false → t.whole ≡ 0

-- ---- of the walk

numbered : (n room : ℕ) → Numbered n room (room_number n room)
numbered n room = go (dec_lt room n)
  where
    go : Dec (room < n) → Numbered n room (room_number n room)
    go (yes h) = rw (exceeds n room h) (some_fit h)
    go (no k) = let h : n ≤ room = omega arith in rw ((at_most n room).1 h) (all_fit h)

first_stored_lem : {X : Type 0} (part : Found → X) (l : List Found) (before : List X) → First part l before (stored (map part l) before)
unfolding stored
first_stored_lem part l before = rw (length-map l part)

accounted : (j : Trees) (edge : Edge) (radius : Float) (counting : Bool) → Accepts j → Accounted j edge radius counting (walk_totals j edge radius counting)
accounted j edge radius counting ok = record {
  of_the_walk = refl;
  adding_up = totals_add_up j ok edge radius counting;
  few_visits = visits_bounded j edge radius counting;
  none_whole = λ e. subst (λ (c : Bool). (walk_totals j edge radius c).whole ≡ 0) (sym e) (pairs_take_none_whole j edge radius);
}

-- a call that fills rooms and goes on with `rest`: where a tree is refused, the rooms are as they were
pub refused_untouched : {Rooms : Type 0} (j : Trees) (b : Rooms) (rest : Answer × Rooms) {x : Answer × Rooms} → x ≡ checked (λ n s. (refused n s, b)) (left_refusal j) (right_refusal j) rest
    → (Accepts j → ⊥)
    → Refused j x.0 × (x.1 ≡ b)
refused_untouched {Rooms} j b rest told bad =
    let P : Answer × Rooms → Type 0 = λ x. Refused j x.0 × (x.1 ≡ b) in
    subst P (sym told) (by_trees j (λ n s. (refused n s, b)) rest P (λ n s t. (record { first_broken = t; none_found = refl; no_totals = refl }, refl)) (λ ok. absurd (bad ok)))

-- ---- pairs

module _ (j : Trees) (edge : Edge) (radius : Float) (b : PairRooms) (r : Result PairRooms) (told : PairsTold j edge radius b r) where
  pub pairs_refused : (Accepts j → ⊥) → Refused j (answer_of r.answer) × (r.rooms ≡ b)
  pairs_refused bad = refused_untouched j b (pairs_in j edge radius b (pair_rooms_agree b)) told bad

  module _ (ok : Accepts j) where
    -- rule 8
    pub pairs_rooms_refused : (PairRoomsAgree b → ⊥) → (answer_of r.answer ≡ refused 8 0) × (r.rooms ≡ b)
    pairs_rooms_refused differ =
        let e = told ∙ pairs_differ j edge radius b ok (fails (pair_rooms_agree b) (λ d. differ ((rooms_agree b).0 d))) in
        (ap (λ (x : Answer × PairRooms). x.0) e, ap (λ (x : Answer × PairRooms). x.1) e)

    module _ (agree : PairRoomsAgree b) where
      walked : (answer_of r.answer, r.rooms) ≡ pairs_walked j edge radius b
      walked = told ∙ pairs_walk j edge radius b ok ((rooms_agree b).1 agree)

      pub pairs_right : PairsRight j edge radius b (answer_of r.answer) r.rooms
      pairs_right =
          let l = found j edge radius in
          let P : Answer × PairRooms → Type 0 = λ x. PairsRight j edge radius b x.0 x.1 in
          subst P (sym walked) (record {
            rearranged = found_is_rearrangement j ok edge radius;
            all_counted = refl;
            number_right = numbered (length l) (length b.distances);
            no_side = refl;
            lefts_stored = first_stored_lem (λ x. x.left) l b.lefts;
            rights_stored = first_stored_lem (λ x. x.right) l b.rights;
            distances_stored = first_stored_lem (λ x. x.distance) l b.distances;
          })

      pub pairs_accounted : Accounted j edge radius false (answer_of r.answer).totals
      pairs_accounted = subst (λ (x : Answer × PairRooms). Accounted j edge radius false x.0.totals) (sym walked) (accounted j edge radius false ok)

-- ---- counts

module _ (j : Trees) (edge : Edge) (radius : Float) (a : Held) (told : CountsTold j edge radius a) where
  pub counts_refused : (Accepts j → ⊥) → Refused j (answer_of a)
  counts_refused bad =
      subst (Refused j) (sym told)
      (by_trees j refused (counts_walked j edge radius) (Refused j) (λ n s t. record { first_broken = t; none_found = refl; no_totals = refl }) (λ ok. absurd (bad ok)))

  module _ (ok : Accepts j) where
    pub counts_right : CountsRight j edge radius (answer_of a)
    counts_right =
        subst (CountsRight j edge radius) (sym (told ∙ counts_walk j edge radius ok))
        (record { all_counted = count_is_its_length j ok edge radius ∙ perm_length (found_is_rearrangement j ok edge radius); no_number = refl; no_side = refl })

    pub counts_accounted : Accounted j edge radius true (answer_of a).totals
    counts_accounted = subst (λ (x : Answer). Accounted j edge radius true x.totals) (sym (told ∙ counts_walk j edge radius ok)) (accounted j edge radius true ok)
