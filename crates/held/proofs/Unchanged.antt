-- A leaf pair changes no answer where the right box is not nearer to any left place than what it holds. Assumes nothing.
use mathlib.Core.Path.{◌≡◌, refl}
use mathlib.Core.Bool.{Bool, true, false, cond}
use mathlib.Core.List.{List}
use Prim.Native.Nat.{ℕ, zero, suc, ◌+◌, ◌≤◌, ◌<◌}
use native.Mathlib.Nat.{zero-add}
use native.Mathlib.Omega.{arith}
use lib.ListN.{length}
use lib.Dec.{T}
use lib.Ieee.{Float, le, lt}
use Rattle.rounding.proofs.Order.{le_lt_trans}
use Rattle.written.specs.Places.{In, inside}
use Rattle.written.specs.Boxes.{Trees, point, distance}
use Rattle.written.specs.NodePairs.{NodePair, left_part, right_part}
use Rattle.written.specs.Nearest.{Neighbour, answer_at, improve, offer, update}
use Rattle.written.proofs.Laws.Tests.{denies, T_true, not_both}
use Rattle.written.proofs.Laws.Places.{true_inside}
use Rattle.leafnearest.specs.Each.{each_is}
use Rattle.held.specs.Apart.{apart, BoxNoFarther}

-- where x is not below y, no number from x up is; NaN is below nothing
not_below : (x z y : Float) → T (le x z) → lt x y ≡ false → lt z y ≡ false
not_below x z y h e = denies (lt z y) (λ (k : T (lt z y)). not_both (T_true (lt x y) (le_lt_trans x z y h k)) e)

-- no offer is nearer, so none is taken
none_taken : (g : ℕ → Neighbour) (a n : ℕ) (old : Neighbour) → ((q : ℕ) → a ≤ q → q < a + n → lt (g q).distance old.distance ≡ false) → improve g a n old ≡ old
unfolding improve
none_taken g a zero old h = refl
none_taken g a (suc n) old h = rw (h a (omega arith) (omega arith)) (none_taken g (suc a) n old (λ q k l. h q (omega arith) (omega arith)))

module _ (j : Trees) where
  offered : (p q : ℕ) → (offer j p q).distance ≡ distance j p q
  unfolding offer
  offered p q = refl

  pub update_none : (c : List Neighbour) (s : NodePair) → BoxNoFarther j s
      → ((p : ℕ) → In p (left_part j s) → p < length c → lt (apart j.axes s.boxes (point j.left p)) (answer_at c p).distance ≡ false) → update j c s ≡ c
  unfolding update
  update_none c s far kept = each_is _ 0 c c refl (λ p l. rw (zero-add p) (same p l (inside p (left_part j s)) refl))
    where
      same : (p : ℕ) → p < length c → (b : Bool) → inside p (left_part j s) ≡ b
          → cond b (improve (offer j p) (right_part j s).from (right_part j s).size (answer_at c p)) (answer_at c p) ≡ answer_at c p
      same p l false e = refl
      same p l true e =
          let i : In p (left_part j s) = true_inside p (left_part j s) e in
          none_taken (offer j p) (right_part j s).from (right_part j s).size (answer_at c p)
          (λ q k m. rw (offered p q) (not_below (apart j.axes s.boxes (point j.left p)) (distance j p q) (answer_at c p).distance (far p q i (record { above = k; below = m })) (kept p i l)))
