-- The demands on nearest, of any result that its promise permits: what refused trees and rooms get, right answers, and totals that account for each pair of places. Assumes nothing.
use Rattle.std.specs.Prelude.{◌≡◌, refl, Bool, true, false, List, [], ◌∷◌, ◌++◌, map, ℕ, zero, suc, ◌+◌, ◌-◌, ◌*◌, ◌^◌, ◌≤◌, ◌<◌, length, get_or, drop, T, leb, Float}
use Rattle.std.proofs.Common.{sym, ap, ap₂, ◌∙◌, subst, inl, inr, arith}
use Rattle.std.proofs.Math.Decide.{dec_lt}
use Rattle.std.specs.Float.{inf, nan}
use Rattle.std.specs.Float.Ieee.{le}
use Rattle.written.specs.LentTree.{places, item as item_of}
use Rattle.written.specs.Boxes.{Trees, distance as distance_of}
use Rattle.written.specs.NodePairs.{stem_levels}
use Rattle.written.specs.Nearest.{Neighbour, unset, answer_at, nearest, no_points}
use Rattle.written.specs.Totals.{Totals, none, near_totals}
use Rattle.written.specs.Answers.{Answer, answered, refused, Accepts, NearRooms, near_rooms_agree, near_room_ok, nearest_in}
use Rattle.written.specs.Calls.{NearRoomsAgree, NearestAnswer, nearest_rooms_differ, nearest_room_short, nearest_no_points, nearest_written}
use Rattle.written.proofs.Right.{nearest_for_each, nearest_least, nearest_item}
use Rattle.written.proofs.Accounted.{near_totals_add_up}
use Rattle.written.proofs.Limits.{near_visits_bounded, nearest_takes_none_whole}
use Rattle.written.proofs.Answered.{nearest_means}
use Rattle.written.proofs.Laws.Tests.{neither, not_both, at_most, equal}
use Rattle.written.proofs.Laws.Points.{has_points, both_hold}
use Rattle.join.specs.Answering.{answer_of}
use Rattle.join.specs.Told.{Result, NearestTold}
use Rattle.join.specs.Onward.{nearest_walk}
use Rattle.join.specs.Demands.{Refused, refused_untouched}

-- ---- what each demand says

abbrev pub HoldPoints : Trees → Type 0
HoldPoints j = (0 < places j.left) × (0 < places j.right)

-- rule 9: both trees hold points, and the room is below the left number
abbrev pub RoomShort : Trees → NearRooms → Type 0
RoomShort j b = HoldPoints j × (length b.distances < places j.left)

-- whose item and distance the answer of the left place p is: a right place's; or item 0 at +inf, when every distance overflows
pub data Belongs (j : Trees) (p : ℕ) : (item : ℕ) → (distance : Float) → Type 0 where
  to_a_place : (q : ℕ) → q < places j.right → Belongs j p (item_of j.right q) (distance_of j p q)
  to_none : ((q : ℕ) → q < places j.right → distance_of j p q ≡ inf false) → Belongs j p 0 (inf false)

-- the answer of the left place p: none of the place's rounded distances is below its own, which is one of them
pub record NearestAt (j : Trees) (p item : ℕ) (distance : Float) : Type 0 where
  pub least : (q : ℕ) → q < places j.right → T (le distance (distance_of j p q))
  pub belongs : Belongs j p item distance

-- an answer for each left place, in left place order; beyond them the rooms are as they were
pub record NearestRight (j : Trees) (before : NearRooms) (a : Answer) (after : NearRooms) : Type 0 where
  pub no_number : a.number ≡ 0
  pub no_side : a.side ≡ 0
  pub for_each : a.found ≡ places j.left
  pub one_each : length (nearest j) ≡ places j.left
  pub items_stored : after.items ≡ map (λ x. x.item) (nearest j) ++ drop (places j.left) before.items
  pub distances_stored : after.distances ≡ map (λ x. x.distance) (nearest j) ++ drop (places j.left) before.distances
  pub right_at : (p : ℕ) → p < places j.left → NearestAt j p (get_or after.items p 0) (get_or after.distances p nan)

-- each total is the walk's own sum; the three add up, the visits are bounded, and no node pair is taken whole
pub record NearestAccounted (j : Trees) (t : Totals) : Type 0 where
  pub of_the_walk : t ≡ near_totals j
  pub adding_up : t.measured + t.ruled_out + t.whole ≡ places j.left * places j.right
  pub few_visits : t.visits ≤ 2 ^ (stem_levels j + 1) - 1
  pub none_whole : t.whole ≡ 0

-- ---- whether the trees hold points, and whether there is room

no_points_lem : (j : Trees) → (HoldPoints j → ⊥) → no_points j ≡ true
no_points_lem j empty = go (no_points j) refl
  where
    go : (t : Bool) → no_points j ≡ t → no_points j ≡ true
    go true e = e
    go false e = absurd (empty (both_hold j e))

room_for_all : (j : Trees) (b : NearRooms) → (RoomShort j b → ⊥) → near_room_ok j b ≡ true
room_for_all j b enough = go (near_room_ok j b) refl
  where
    go : (t : Bool) → near_room_ok j b ≡ t → near_room_ok j b ≡ true
    go true e = e
    go false e =
        let n = neither (no_points j) (leb (places j.left) (length b.distances)) e in
        absurd (enough (both_hold j n.0, below (dec_lt (length b.distances) (places j.left)) n.1))
      where
        below : Dec (length b.distances < places j.left) → leb (places j.left) (length b.distances) ≡ false → length b.distances < places j.left
        below (yes h) f = h
        below (no k) f = absurd (not_both ((at_most (places j.left) (length b.distances)).1 (omega arith)) f)

-- ---- what is read at a place

-- of what is stored, the part of the answer at p
part_at : {X Y : Type 0} (part : X → Y) (l : List X) (rest : List Y) (p : ℕ) (x : X) (y : Y) → p < length l → get_or (map part l ++ rest) p y ≡ part (get_or l p x)
part_at part [] rest p x y h = absurd (omega arith)
part_at part (z ∷ l) rest zero x y h = refl
part_at part (z ∷ l) rest (suc p) x y h = part_at part l rest p x y (omega arith)

module _ (j : Trees) (ok : Accepts j) (p : ℕ) (h : p < places j.left) (some : 0 < places j.right) where
  belonging : Belongs j p (answer_at (nearest j) p).item (answer_at (nearest j) p).distance
  belonging =
      elim (nearest_item j ok p h some) [
        | inl x ↦ subst (λ (y : Neighbour). Belongs j p y.item y.distance) (sym (ap₂ (λ (i : ℕ) (d : Float). record { item = i; distance = d }) x.2 x.3)) (to_a_place x.0 x.1)
        | inr x ↦ subst (λ (y : Neighbour). Belongs j p y.item y.distance) (sym x.0) (to_none x.1)
      ]

  nearest_at : NearestAt j p (answer_at (nearest j) p).item (answer_at (nearest j) p).distance
  nearest_at = record { least = nearest_least j ok p h some; belongs = belonging }

  -- so it is in the rooms, whatever is beyond the answers
  read_at : (items : List ℕ) (distances : List Float) → length (nearest j) ≡ places j.left
      → NearestAt j p (get_or (map (λ x. x.item) (nearest j) ++ items) p 0) (get_or (map (λ x. x.distance) (nearest j) ++ distances) p nan)
  read_at items distances n =
      rw (part_at (λ x. x.item) (nearest j) items p unset 0 (omega arith), part_at (λ x. x.distance) (nearest j) distances p unset nan (omega arith)) nearest_at

-- ---- the call

module _ (j : Trees) (b : NearRooms) (r : Result NearRooms) (told : NearestTold j b r) where
  pub nearest_refused : (Accepts j → ⊥) → Refused j (answer_of r.answer) × (r.rooms ≡ b)
  nearest_refused bad = refused_untouched j b (nearest_in j b (near_rooms_agree b) (near_room_ok j b)) told bad

  -- the row of the table that applies
  row_is : {x : Answer × NearRooms} → NearestAnswer j b x → (answer_of r.answer, r.rooms) ≡ x
  row_is {x} row = told ∙ sym ((nearest_means j b x).0 row)

  by_row : {a : Answer} {after : NearRooms} → NearestAnswer j b (a, after) → (answer_of r.answer ≡ a) × (r.rooms ≡ after)
  by_row row = (ap (λ (x : Answer × NearRooms). x.0) (row_is row), ap (λ (x : Answer × NearRooms). x.1) (row_is row))

  module _ (ok : Accepts j) where
    -- rule 8
    pub nearest_rooms_refused : (NearRoomsAgree b → ⊥) → (answer_of r.answer ≡ refused 8 0) × (r.rooms ≡ b)
    nearest_rooms_refused differ = by_row (nearest_rooms_differ ok differ)

    module _ (agree : NearRoomsAgree b) where
      none_written : no_points j ≡ true → (answer_of r.answer ≡ answered 0 0 none) × (r.rooms ≡ b)
      none_written e = by_row (nearest_no_points ok agree e)

      -- a tree without points: nothing is written, whatever the room, and all totals are 0
      pub nearest_of_none : (HoldPoints j → ⊥) → (answer_of r.answer ≡ answered 0 0 none) × (r.rooms ≡ b)
      nearest_of_none empty = none_written (no_points_lem j empty)

      -- rule 9, told beforehand, and then alone
      pub nearest_room_refused : (RoomShort j b → (answer_of r.answer ≡ refused 9 0) × (r.rooms ≡ b)) × ((answer_of r.answer).number ≡ 9 → RoomShort j b)
      nearest_room_refused = (λ s. by_row (nearest_room_short ok agree (has_points j 0 0 s.0.0 s.0.1) s.1), only (no_points j) refl (dec_lt (length b.distances) (places j.left)))
        where
          only : (t : Bool) → no_points j ≡ t → Dec (length b.distances < places j.left) → (answer_of r.answer).number ≡ 9 → RoomShort j b
          only true e d nine = absurd (omega (arith, nine, ap (λ (a : Answer). a.number) (none_written e).0))
          only false e (yes h) nine = (both_hold j e, h)
          only false e (no k) nine = absurd (omega (arith, nine, ap (λ (a : Answer). a.number) (by_row (nearest_written ok agree e (omega arith))).0))

      pub nearest_right : HoldPoints j → places j.left ≤ length b.distances → NearestRight j b (answer_of r.answer) r.rooms
      nearest_right hold room =
          let e = row_is (nearest_written ok agree (has_points j 0 0 hold.0 hold.1) room) in
          let n = nearest_for_each j ok hold.0 hold.1 in
          subst (λ (x : Answer × NearRooms). NearestRight j b x.0 x.1) (sym e) (record {
            no_number = refl;
            no_side = refl;
            for_each = refl;
            one_each = n;
            items_stored = refl;
            distances_stored = refl;
            right_at = λ p h. read_at j ok p h hold.1 (drop (places j.left) b.items) (drop (places j.left) b.distances) n;
          })

      pub nearest_accounted : (RoomShort j b → ⊥) → NearestAccounted j (answer_of r.answer).totals
      nearest_accounted enough =
          let walked = told ∙ nearest_walk j b ok ((equal (length b.items) (length b.distances)).1 agree) (room_for_all j b enough) in
          subst (λ (x : Answer × NearRooms). NearestAccounted j x.0.totals) (sym walked) (record {
            of_the_walk = refl;
            adding_up = near_totals_add_up j ok;
            few_visits = near_visits_bounded j;
            none_whole = nearest_takes_none_whole j;
          })
