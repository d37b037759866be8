-- How a call goes on where the check accepts both trees: what it answers and leaves in the rooms. Assumes nothing.
use Rattle.std.specs.Prelude.{◌≡◌, Bool, true, false, length, Float}
use Rattle.std.proofs.Math.Path.{refl}
use Rattle.std.proofs.Common.{ap₂, ◌∙◌}
use Rattle.written.specs.Boxes.{Trees, Edge}
use Rattle.written.specs.RadiusWalk.{found, count}
use Rattle.written.specs.Nearest.{nearest}
use Rattle.written.specs.Totals.{walk_totals, near_totals}
use Rattle.written.specs.Answers.{Answer, answered, refused, Accepts, PairRooms, pair_rooms_agree, pairs_stored, room_number, pairs_in, pairs_call, counts_call}
use Rattle.written.specs.Answers.{NearRooms, near_rooms_agree, near_stored, near_room_ok, nearest_in, nearest_call}
use Rattle.written.proofs.Laws.Checked.{on_accepted}

module _ (j : Trees) (edge : Edge) (radius : Float) where
  abbrev pub pairs_walked : PairRooms → Answer × PairRooms
  pairs_walked b =
      let l = found j edge radius in
      (answered (room_number (length l) (length b.distances)) (length l) (walk_totals j edge radius false), pairs_stored l b)

  abbrev pub counts_walked : Answer
  counts_walked = answered 0 (count j edge radius) (walk_totals j edge radius true)

  module _ (b : PairRooms) where
    abbrev rest : Answer × PairRooms
    rest = pairs_in j edge radius b (pair_rooms_agree b)

    differ : pair_rooms_agree b ≡ false → rest ≡ (refused 8 0, b)
    unfolding pairs_in
    differ d = rw d

    walk : pair_rooms_agree b ≡ true → rest ≡ pairs_walked b
    unfolding pairs_in
    walk d = rw d

    pub pairs_differ : Accepts j → pair_rooms_agree b ≡ false → pairs_call j edge radius b ≡ (refused 8 0, b)
    pairs_differ ok d = on_accepted j (λ n s. (refused n s, b)) rest ok ∙ differ d

    pub pairs_walk : Accepts j → pair_rooms_agree b ≡ true → pairs_call j edge radius b ≡ pairs_walked b
    pairs_walk ok d = on_accepted j (λ n s. (refused n s, b)) rest ok ∙ walk d

  pub counts_walk : Accepts j → counts_call j edge radius ≡ counts_walked
  counts_walk ok = on_accepted j refused counts_walked ok

-- ---- nearest

module _ (j : Trees) where
  abbrev pub nearest_walked : NearRooms → Answer × NearRooms
  nearest_walked b = let l = nearest j in (answered 0 (length l) (near_totals j), near_stored l b)

  module _ (b : NearRooms) where
    -- by whether the rooms agree, and whether there is room
    differing : (enough : Bool) → nearest_in j b false enough ≡ (refused 8 0, b)
    unfolding nearest_in
    differing enough = refl

    short : nearest_in j b true false ≡ (refused 9 0, b)
    unfolding nearest_in
    short = refl

    written : nearest_in j b true true ≡ nearest_walked b
    unfolding nearest_in
    written = refl

    going_on : {agree enough : Bool} → Accepts j → near_rooms_agree b ≡ agree → near_room_ok j b ≡ enough → nearest_call j b ≡ nearest_in j b agree enough
    going_on ok d f = on_accepted j (λ n s. (refused n s, b)) (nearest_in j b (near_rooms_agree b) (near_room_ok j b)) ok ∙ ap₂ (nearest_in j b) d f

    pub nearest_differ : Accepts j → near_rooms_agree b ≡ false → nearest_call j b ≡ (refused 8 0, b)
    nearest_differ ok d = going_on ok d refl ∙ differing (near_room_ok j b)

    pub nearest_short : Accepts j → near_rooms_agree b ≡ true → near_room_ok j b ≡ false → nearest_call j b ≡ (refused 9 0, b)
    nearest_short ok d f = going_on ok d f ∙ short

    pub nearest_walk : Accepts j → near_rooms_agree b ≡ true → near_room_ok j b ≡ true → nearest_call j b ≡ nearest_walked b
    nearest_walk ok d f = going_on ok d f ∙ written
