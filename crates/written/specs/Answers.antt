-- Document 01, "Check, in this order": what each public call answers, refusals and rooms included, and what stands in the output buffers afterwards.
-- Definitions alone. Assumes nothing.
use Rattle.std.specs.Prelude.{◌≡◌, List, ◌++◌, map, Bool, true, false, ◌&&◌, ◌||◌, cond, ℕ, zero, suc, length, take, drop, eqb, leb, Float}
use Rattle.written.specs.LentTree.{places}
use Rattle.written.specs.Check.{refusal}
use Rattle.written.specs.Boxes.{Trees, Edge}
use Rattle.written.specs.RadiusWalk.{Found, found, count}
use Rattle.written.specs.Nearest.{Neighbour, nearest, no_points}
use Rattle.written.specs.Totals.{Totals, none, walk_totals, near_totals}

-- the refusal's number (0 when nothing is refused), its side (0 left, 1 right), the number found or written, and the totals
pub record Answer : Type 0 where
  pub number : ℕ
  pub side : ℕ
  pub found : ℕ
  pub totals : Totals

abbrev pub answered : ℕ → ℕ → Totals → Answer
answered number found totals = record { number = number; side = 0; found = found; totals = totals }

abbrev pub refused : ℕ → ℕ → Answer
refused number side = record { number = number; side = side; found = 0; totals = none }

-- the left tree wholly, then the right, then what the call goes on with
abbrev pub checked : {X : Type 0} → (ℕ → ℕ → X) → (left right : ℕ) → X → X
checked refuse zero zero goes_on = goes_on
checked refuse zero (suc n) goes_on = refuse (suc n) 1
checked refuse (suc n) right goes_on = refuse (suc n) 0

abbrev pub left_refusal : Trees → ℕ
left_refusal j = refusal j.axes j.left

abbrev pub right_refusal : Trees → ℕ
right_refusal j = refusal j.axes j.right

-- the check accepts both trees
abbrev pub Accepts : Trees → Type 0
Accepts j = (left_refusal j ≡ 0) × (right_refusal j ≡ 0)

-- the first that fit are stored; beyond what is stored, the buffer stays untouched
unfoldable pub stored : {X : Type 0} → List X → List X → List X
stored l buffer = take (length buffer) l ++ drop (length l) buffer

-- ---- pairs fill three buffers

pub record PairRooms : Type 0 where
  pub lefts : List ℕ
  pub rights : List ℕ
  pub distances : List Float

-- rule 8: the output buffers of one call are of one length
abbrev pub pair_rooms_agree : PairRooms → Bool
pair_rooms_agree b = eqb (length b.lefts) (length b.rights) && eqb (length b.rights) (length b.distances)

abbrev pub pairs_stored : List Found → PairRooms → PairRooms
pairs_stored l b = record { lefts = stored (map (λ x. x.left) l) b.lefts; rights = stored (map (λ x. x.right) l) b.rights; distances = stored (map (λ x. x.distance) l) b.distances }

-- rule 9, pairs: more pairs pass than the room holds, told after the walk
abbrev pub room_number : ℕ → ℕ → ℕ
room_number n room = cond (leb n room) 0 9

unfoldable pub pairs_in : Trees → Edge → Float → PairRooms → Bool → Answer × PairRooms
unfolding found walk_totals stored
pairs_in j edge radius b false = (refused 8 0, b)
pairs_in j edge radius b true =
    let l = found j edge radius in
    (answered (room_number (length l) (length b.distances)) (length l) (walk_totals j edge radius false), pairs_stored l b)

abbrev pub pairs_call : Trees → Edge → Float → PairRooms → Answer × PairRooms
pairs_call j edge radius b = checked (λ n side. (refused n side, b)) (left_refusal j) (right_refusal j) (pairs_in j edge radius b (pair_rooms_agree b))

-- ---- counts fill none

abbrev pub counts_call : Trees → Edge → Float → Answer
counts_call j edge radius = checked refused (left_refusal j) (right_refusal j) (answered 0 (count j edge radius) (walk_totals j edge radius true))

-- ---- nearest fills two

pub record NearRooms : Type 0 where
  pub items : List ℕ
  pub distances : List Float

abbrev pub near_rooms_agree : NearRooms → Bool
near_rooms_agree b = eqb (length b.items) (length b.distances)

abbrev pub near_stored : List Neighbour → NearRooms → NearRooms
near_stored l b = record { items = stored (map (λ x. x.item) l) b.items; distances = stored (map (λ x. x.distance) l) b.distances }

-- rule 9, nearest: both trees hold points and the room is below the left number, told beforehand
abbrev pub near_room_ok : Trees → NearRooms → Bool
near_room_ok j b = no_points j || leb (places j.left) (length b.distances)

unfoldable pub nearest_in : Trees → NearRooms → (agree enough : Bool) → Answer × NearRooms
unfolding nearest near_totals stored
nearest_in j b false enough = (refused 8 0, b)
nearest_in j b true false = (refused 9 0, b)
nearest_in j b true true = let l = nearest j in (answered 0 (length l) (near_totals j), near_stored l b)

abbrev pub nearest_call : Trees → NearRooms → Answer × NearRooms
nearest_call j b = checked (λ n side. (refused n side, b)) (left_refusal j) (right_refusal j) (nearest_in j b (near_rooms_agree b) (near_room_ok j b))
