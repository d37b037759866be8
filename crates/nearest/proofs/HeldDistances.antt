-- The largest distance held in a stretch of the answers is that of the distances alone, so a node pair is ruled out by them as document 01 has it. Assumes nothing.
use mathlib.Core.Path.{◌≡◌, refl, ap}
use mathlib.Core.List.{List}
use mathlib.Core.Bool.{◌||◌, cond}
use Prim.Native.Nat.{ℕ, zero, suc, ◌+◌, ◌≤◌}
use native.Mathlib.Omega.{arith}
use lib.ListN.{length, get_or, take, drop}
use lib.Seq.{drop-cons}
use lib.Ieee.{Float, nan, lt}
use Rattle.rounding.specs.Distance.{zero₊}
use Rattle.written.specs.Boxes.{Trees, lower, under, beyond}
use Rattle.written.specs.NodePairs.{NodePair, no_leaf, left_part}
use Rattle.written.specs.Nearest.{Neighbour, answer_at, largest, near_ruled_out}
use Rattle.leafnearest.specs.Answers.{answers}
use Rattle.leafnearest.proofs.Stored.{get_answers}
use Rattle.held.specs.Largest.{largest_from}
use Rattle.nearvisit.specs.Moves.{ruled_out_by}

pub largest_is : (items : List ℕ) (distances : List Float) (a n : ℕ) (m : Float) → length items ≡ length distances → a + n ≤ length distances → largest_from m (take n (drop a distances)) ≡ largest (answers items distances) a n m
unfolding largest
largest_is items distances a zero m e h = refl
largest_is items distances a (suc n) m e h =
    let x : Float = get_or distances a nan in
    let same : (answer_at (answers items distances) a).distance ≡ x = ap (λ (y : Neighbour). y.distance) (get_answers items distances a (omega arith) (omega arith)) in
    rw (drop-cons distances a nan (omega arith), same)
    (largest_is items distances (suc a) n (cond (lt m x) x m) e (omega arith))

pub ruled_out_is : (j : Trees) (items : List ℕ) (distances : List Float) (s : NodePair) → length items ≡ length distances → (left_part j s).from + (left_part j s).size ≤ length distances → ruled_out_by j distances s ≡ near_ruled_out j (answers items distances) s
ruled_out_is j items distances s e h =
    ap (λ (m : Float). no_leaf s || beyond under m (lower j.axes s.boxes)) (largest_is items distances (left_part j s).from (left_part j s).size zero₊ e h)
