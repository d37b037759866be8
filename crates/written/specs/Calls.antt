-- Document 01, "Check, in this order", row by row: what each public call answers and leaves in its buffers, and exactly when.
-- Statements alone; proofs/Answered.antt proves that the computed answers are these, and no others. Assumes nothing.
use Rattle.std.specs.Prelude.{◌≡◌, List, ◌++◌, map, true, false, ℕ, suc, ◌≤◌, ◌<◌, length, take, drop, Float}
use Rattle.written.specs.LentTree.{places}
use Rattle.written.specs.Boxes.{Trees, Edge}
use Rattle.written.specs.RadiusWalk.{Found, found, count}
use Rattle.written.specs.Nearest.{Neighbour, nearest, no_points}
use Rattle.written.specs.Totals.{none, walk_totals, near_totals}
use Rattle.written.specs.Answers.{Answer, answered, refused, Accepts, PairRooms, NearRooms}
use Rattle.written.specs.Rules.{FirstBroken}

-- 1 to 7: the left tree wholly, then the right; the first rule broken, and its side
pub data TreeRefused (j : Trees) : (number side : ℕ) → Type 0 where
  left_broken : {n : ℕ} → FirstBroken j.axes j.left (suc n) → TreeRefused j (suc n) 0
  right_broken : {n : ℕ} → FirstBroken j.axes j.left 0 → FirstBroken j.axes j.right (suc n) → TreeRefused j (suc n) 1

-- 8: the buffers of one call have one length
abbrev pub PairRoomsAgree : PairRooms → Type 0
PairRoomsAgree b = (length b.lefts ≡ length b.rights) × (length b.rights ≡ length b.distances)

abbrev pub NearRoomsAgree : NearRooms → Type 0
NearRoomsAgree b = length b.items ≡ length b.distances

-- room for all: all are stored, and beyond them the buffers stay untouched
abbrev pub all_stored : List Found → PairRooms → PairRooms
all_stored l b = record {
  lefts = map (λ x. x.left) l ++ drop (length l) b.lefts;
  rights = map (λ x. x.right) l ++ drop (length l) b.rights;
  distances = map (λ x. x.distance) l ++ drop (length l) b.distances;
}

-- room for less: the first that fit
abbrev pub first_stored : List Found → PairRooms → PairRooms
first_stored l b = record {
  lefts = take (length b.lefts) (map (λ x. x.left) l);
  rights = take (length b.rights) (map (λ x. x.right) l);
  distances = take (length b.distances) (map (λ x. x.distance) l);
}

-- an answer for each of n left places, and beyond them the buffers stay untouched
abbrev pub answers_stored : ℕ → List Neighbour → NearRooms → NearRooms
answers_stored n l b = record { items = map (λ x. x.item) l ++ drop n b.items; distances = map (λ x. x.distance) l ++ drop n b.distances }

module _ (j : Trees) (edge : Edge) (radius : Float) where
  pub data PairsAnswer (b : PairRooms) : Answer × PairRooms → Type 0 where
    -- 1 to 7 and 8: outputs untouched, totals 0
    pairs_tree_refused : {number side : ℕ} → TreeRefused j number side → PairsAnswer b (refused number side, b)
    pairs_rooms_differ : Accepts j → (PairRoomsAgree b → ⊥) → PairsAnswer b (refused 8 0, b)
    -- 0, and 9: all are counted, with full totals
    pairs_all_fit : Accepts j → PairRoomsAgree b → length (found j edge radius) ≤ length b.distances
        → PairsAnswer b (answered 0 (length (found j edge radius)) (walk_totals j edge radius false), all_stored (found j edge radius) b)
    pairs_some_fit : Accepts j → PairRoomsAgree b → length b.distances < length (found j edge radius)
        → PairsAnswer b (answered 9 (length (found j edge radius)) (walk_totals j edge radius false), first_stored (found j edge radius) b)

  pub data CountsAnswer : Answer → Type 0 where
    counts_tree_refused : {number side : ℕ} → TreeRefused j number side → CountsAnswer (refused number side)
    counts_told : Accepts j → CountsAnswer (answered 0 (count j edge radius) (walk_totals j edge radius true))

module _ (j : Trees) where
  pub data NearestAnswer (b : NearRooms) : Answer × NearRooms → Type 0 where
    -- 1 to 7, 8 and 9: outputs untouched, totals 0
    nearest_tree_refused : {number side : ℕ} → TreeRefused j number side → NearestAnswer b (refused number side, b)
    nearest_rooms_differ : Accepts j → (NearRoomsAgree b → ⊥) → NearestAnswer b (refused 8 0, b)
    nearest_room_short : Accepts j → NearRoomsAgree b → no_points j ≡ false → length b.distances < places j.left → NearestAnswer b (refused 9 0, b)
    -- 0: a tree holds no points, so nothing is written and all totals are 0; or there is an answer for each left place
    nearest_no_points : Accepts j → NearRoomsAgree b → no_points j ≡ true → NearestAnswer b (answered 0 0 none, b)
    nearest_written : Accepts j → NearRoomsAgree b → no_points j ≡ false → places j.left ≤ length b.distances
        → NearestAnswer b (answered 0 (places j.left) (near_totals j), answers_stored (places j.left) (nearest j) b)
