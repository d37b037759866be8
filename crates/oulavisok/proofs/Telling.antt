-- From the join's answer, told in numbers, to what an exported call promises. Assumes nothing.
use mathlib.Core.Path.{◌≡◌, ap, ap₂, ◌∙◌}
use mathlib.Core.List.{List}
use Prim.Native.Nat.{ℕ}
use lib.Ieee.{Float}
use Rattle.written.specs.Boxes.{Trees, Edge}
use Rattle.written.specs.Answers.{Answer, PairRooms, pairs_call, NearRooms, nearest_call}
use Rattle.join.specs.declared.answer.Answer.{Answer as Flat}
use Rattle.join.specs.Answering.{Held, answer_of, flat_of}
use Rattle.join.specs.Told.{with_rooms, with_near_rooms, PairsTold, CountsTold, NearestTold}
use Rattle.oulavisok.specs.Numbers.{numbers, with_numbers, with_numbers_and_rooms, with_numbers_and_near_rooms, told_of, InNumbers, PairsNumbers, CountsNumbers, NearestNumbers}

in_numbers : {a : Flat} {n : ℕ} {six : List ℕ} → n ≡ a.number → six ≡ numbers a → with_numbers n six ≡ told_of (flat_of a)
in_numbers e f = ap₂ with_numbers e f

with_rooms_lem : {Rooms : Type 0} (call : Answer × Rooms) (h : Held) {a : Flat} {n : ℕ} {six : List ℕ} {rooms : Rooms} → (answer_of h, rooms) ≡ call → flat_of a ≡ answer_of h → n ≡ a.number → six ≡ numbers a
    → InNumbers call (record { told = with_numbers n six; rooms = rooms })
with_rooms_lem {Rooms} call h t g e f = (in_numbers e f ∙ ap told_of g ∙ ap (λ (x : Answer × Rooms). told_of x.0) t, ap (λ (x : Answer × Rooms). x.1) t)

module _ (j : Trees) (edge : Edge) (radius : Float) where
  pub pairs_numbers : (b : PairRooms) (h : Held) {a : Flat} {n : ℕ} {six lefts rights : List ℕ} {distances : List Float} → PairsTold j edge radius b (with_rooms h lefts rights distances)
      → flat_of a ≡ answer_of h → n ≡ a.number → six ≡ numbers a → PairsNumbers j edge radius b (with_numbers_and_rooms n six lefts rights distances)
  pairs_numbers b h t g e f = with_rooms_lem (pairs_call j edge radius b) h t g e f

  pub counts_numbers : (h : Held) {a : Flat} {n : ℕ} {six : List ℕ} → CountsTold j edge radius h → flat_of a ≡ answer_of h → n ≡ a.number → six ≡ numbers a → CountsNumbers j edge radius (with_numbers n six)
  counts_numbers h t g e f = in_numbers e f ∙ ap told_of (g ∙ t)

pub nearest_numbers : (j : Trees) (b : NearRooms) (h : Held) {a : Flat} {n : ℕ} {six items : List ℕ} {distances : List Float} → NearestTold j b (with_near_rooms h items distances)
    → flat_of a ≡ answer_of h → n ≡ a.number → six ≡ numbers a → NearestNumbers j b (with_numbers_and_near_rooms n six items distances)
nearest_numbers j b h t g e f = with_rooms_lem (nearest_call j b) h t g e f
