-- The order in which the two halves of a node pair are taken, and the box sides of each. Assumes nothing.
use mathlib.Core.Path.{◌≡◌}
use Prim.Native.Nat.{ℕ, ◌+◌, ◌<◌}
use native.Mathlib.Omega.{arith}
use lib.ListN.{get_or, set, length-set}
use lib.Seq.{set-set, set-get_or}
use lib.Ieee.{Float, nan}
use Rattle.written.specs.Boxes.{Boxes, lowered_to, raised_to, lowered, raised}
use Rattle.written.specs.NodePairs.{corner}
use Rattle.written.proofs.Laws.Boxes.{Sized}
use Rattle.cursor.specs.Held.{side_of}
use Rattle.cursor.specs.declared.lent.Side.TheVariants.{Left, Right}
use Rattle.cursor.specs.declared.lent.Side.{Side as HeldSide}

-- the radius walk takes the near half first, nearest the far one
pub data Order : Type 0 where
  near_first far_first : Order

-- of the near one and the far one, the one taken first, and the one that waits
abbrev pub first : {X : Type 0} → Order → X → X → X
first near_first near far = near
first far_first near far = far

abbrev pub second : {X : Type 0} → Order → X → X → X
second near_first near far = far
second far_first near far = near

-- what both have, each has
pub first_has : {X : Type 0} (P : X → Type 0) (o : Order) {near far : X} → P near → P far → P (first o near far)
first_has P near_first p q = p
first_has P far_first p q = q

pub second_has : {X : Type 0} (P : X → Type 0) (o : Order) {near far : X} → P near → P far → P (second o near far)
second_has P near_first p q = q
second_has P far_first p q = p

-- ---- a box side put anew

-- where a waiting entry's numbers stand in the boxes
abbrev pub slot_of : HeldSide → ℕ → ℕ
slot_of side axis = corner (side_of side) + axis

-- and that they are among the eight
pub within_boxes : (side : HeldSide) (axis : ℕ) {i : ℕ} → i ≡ slot_of side axis → axis < 4 → i < 8
within_boxes Left axis e h = omega arith
within_boxes Right axis e h = omega arith

abbrev pub put : ℕ → Float → Float → Boxes → Boxes
put i lo hi b = record { mins = set b.mins i lo; maxs = set b.maxs i hi }

pub put_put : (i : ℕ) (x y lo hi : Float) (b : Boxes) → put i lo hi (put i x y b) ≡ put i lo hi b
put_put i x y lo hi b = simp set-set

pub put_sized : (i : ℕ) (lo hi : Float) {b : Boxes} → Sized b → Sized (put i lo hi b)
put_sized i lo hi {b} h = record { mins_size = rw length-set h.mins_size; maxs_size = rw length-set h.maxs_size }

-- ---- the boxes of both halves

abbrev pub first_boxes : Order → ℕ → Float → Boxes → Boxes
first_boxes o i v b = first o (lowered b i v) (raised b i v)

abbrev pub second_boxes : Order → ℕ → Float → Boxes → Boxes
second_boxes o i v b = second o (lowered b i v) (raised b i v)

-- the box side of the half that waits, from the side that was saved
abbrev pub waiting_min : Order → (pivot saved : Float) → Float
waiting_min near_first v lo = raised_to v lo
waiting_min far_first v lo = lo

abbrev pub waiting_max : Order → (pivot saved : Float) → Float
waiting_max near_first v hi = hi
waiting_max far_first v hi = lowered_to v hi

abbrev pub waiting_boxes : Order → ℕ → (lo hi pivot : Float) → Boxes → Boxes
waiting_boxes o i lo hi v b = put i (waiting_min o v lo) (waiting_max o v hi) b

pub first_sized : (o : Order) (i : ℕ) (v : Float) {b : Boxes} → Sized b → Sized (first_boxes o i v b)
first_sized near_first i v h = record { mins_size = h.mins_size; maxs_size = rw length-set h.maxs_size }
first_sized far_first i v h = record { mins_size = rw length-set h.mins_size; maxs_size = h.maxs_size }

-- the saved side put back after the first half, and put for the second
pub put_back : (o : Order) (i : ℕ) (v : Float) (b : Boxes) → put i (get_or b.mins i nan) (get_or b.maxs i nan) (first_boxes o i v b) ≡ b
put_back near_first i v b = simp (set-set, set-get_or)
put_back far_first i v b = simp (set-set, set-get_or)

pub put_second : (o : Order) (i : ℕ) (v : Float) (b : Boxes) → waiting_boxes o i (get_or b.mins i nan) (get_or b.maxs i nan) v (first_boxes o i v b) ≡ second_boxes o i v b
put_second near_first i v b = simp (set-set, set-get_or)
put_second far_first i v b = simp (set-set, set-get_or)
