-- Answers improved by right places: by one, by one after the other, and by one whose distances a tile's sums reach. Assumes nothing.
use mathlib.Core.Path.{◌≡◌, refl, sym, ap, ◌∙◌}
use mathlib.Core.Bool.{Bool, true, false, cond}
use mathlib.Core.Logic.{inl, inr}
use mathlib.Core.List.{List}
use Prim.Native.Nat.{ℕ, zero, suc, ◌+◌, ◌-◌, ◌*◌, ◌≤◌, ◌<◌}
use native.Mathlib.Nat.{zero-add, eq-or-lt_of_le, le_of_suc-le-suc, not-suc-le-zero}
use native.Mathlib.Numerals.{add-one}
use native.Mathlib.Omega.{arith}
use lib.ListN.{length, take, drop, get_or}
use lib.Ieee.{Float, binary64}
use Rattle.rounding.specs.Distance.{distance}
use Rattle.rounding.proofs.Boxes.{distance_sym}
use Rattle.written.specs.Boxes.{Trees}
use Rattle.written.specs.Nearest.{Neighbour, nearer, improve, offer}
use Rattle.metric.specs.Lent.{point_at}
use Rattle.leaf.specs.Lent.{join_of}
use Rattle.leaf.specs.Sums.{Holds, sum_to, reached, hits}
use Rattle.leaf.proofs.Growing.{last_axis}
use Rattle.leafnearest.specs.Answers.{answers, closer, offered, improved}
use Rattle.leafnearest.specs.Each.{Change, each_is, each_agree, each_after}
use Rattle.leafnearest.proofs.Stored.{answer, takes, length_answers, get_answers}

-- ---- one answer

improve_none : (o : ℕ → Neighbour) (a e : ℕ) (y : Neighbour) → e ≤ a → improve o a (e - a) y ≡ y
unfolding improve
improve_none o a e y h = let d : e - a ≡ 0 = omega arith in rw d

improve_first : (o : ℕ → Neighbour) (a e : ℕ) (y : Neighbour) → a < e → improve o a (e - a) y ≡ improve o (suc a) (e - suc a) (nearer (o a) y)
unfolding improve
improve_first o a e y h = let d : e - a ≡ suc (e - suc a) = omega arith in rw d

improve_one : (o : ℕ → Neighbour) (a : ℕ) (y : Neighbour) → improve o a (suc a - a) y ≡ nearer (o a) y
improve_one o a y = improve_first o a (suc a) y (omega arith) ∙ improve_none o (suc a) (suc a) (nearer (o a) y) (omega arith)

-- ---- the answers of a tile

-- what `improved` does at each place
abbrev pub improvement : Trees → (rs rend : ℕ) → Change
improvement j rs rend p = improve (offer j p) rs (rend - rs)

module _ (j : Trees) (la : ℕ) (c : List Neighbour) where
  pub improved_none : (a e : ℕ) → e ≤ a → improved j la a e c ≡ c
  improved_none a e h = each_is (improvement j a e) la c c refl (λ i l. improve_none (offer j (la + i)) a e _ h)

  -- by the right place a, then by those behind it
  pub improved_next : (a e : ℕ) → a < e → improved j la (a + 1) e (improved j la a (suc a) c) ≡ improved j la a e c
  improved_next a e h =
      rw (add-one a) (each_after (improvement j (suc a) e) (improvement j a (suc a)) (improvement j a e) la c (λ p y. ap (improve (offer j p) (suc a) (e - suc a)) (improve_one (offer j p) a y) ∙ sym (improve_first (offer j p) a e y h)))

-- where none is counted, none passes
no_hit : (test : ℕ → Bool) (n : ℕ) → hits test n ≡ 0 → (i : ℕ) → i < n → test i ≡ false
unfolding hits
no_hit test zero h i l = absurd (not-suc-le-zero l)
no_hit test (suc n) h i l = elim (eq-or-lt_of_le (le_of_suc-le-suc l)) [
  | inl e ↦ ap test e ∙ go (test n) (omega arith)
  | inr g ↦ no_hit test n (omega arith) i g
]
  where
    go : (b : Bool) → ◌≡◌ {A = ℕ} (cond b 1 0) 0 → b ≡ false
    go true k = absurd (omega arith)
    go false k = refl

-- no distance is smaller: no answer changes
pub none_offered : (new : ℕ → Float) (item : ℕ) (items : List ℕ) (dists : List Float) (n : ℕ) → length items ≡ n → length dists ≡ n → hits (closer new dists) n ≡ 0 → offered new item (answers items dists) ≡ answers items dists
none_offered new item items dists n d e z =
    let m = length_answers items dists (d ∙ sym e) in
    each_is (takes new item) 0 (answers items dists) (answers items dists) refl (λ i l. rw (zero-add i, get_answers items dists i (omega arith) (omega arith), no_hit (closer new dists) n z i (omega arith)))

-- ---- the sums of a tile

module _ (K : ℕ) (litems : List ℕ) (lcoords : List Float) (ritems : List ℕ) (rcoords : List Float) where
  offer_is : (p q : ℕ) → offer (join_of K litems lcoords ritems rcoords) p q ≡ answer (get_or ritems q 0) (distance binary64 (point_at lcoords (length litems) p) (point_at rcoords (length ritems) q) K)
  unfolding offer
  offer_is p q = refl

  module _ (la m q : ℕ) (sums column : List Float) (some : 0 < K) (held : Holds sums m (sum_to rcoords (length ritems) q lcoords (length litems) la (K - 1))) (tile : column ≡ take m (drop ((K - 1) * length litems + la) lcoords)) where
    reached_is : (i : ℕ) → i < m → reached sums (point_at rcoords (length ritems) q (K - 1)) column i ≡ distance binary64 (point_at lcoords (length litems) (la + i)) (point_at rcoords (length ritems) q) K
    reached_is i l = last_axis rcoords (length ritems) q lcoords (length litems) la K m sums column some held tile i l ∙ distance_sym binary64 _ _ K

    -- so one right point is offered at its distances
    pub offered_point : (c : List Neighbour) → length c ≡ m → offered (reached sums (point_at rcoords (length ritems) q (K - 1)) column) (get_or ritems q 0) c ≡ improved (join_of K litems lcoords ritems rcoords) la q (suc q) c
    offered_point c n =
        let j = join_of K litems lcoords ritems rcoords in
        each_agree (takes (reached sums (point_at rcoords (length ritems) q (K - 1)) column) (get_or ritems q 0)) (improvement j q (suc q)) 0 la c (λ i l y. rw (zero-add i, improve_one (offer j (la + i)) q y, offer_is (la + i) q) (ap (λ (d : Float). nearer (answer (get_or ritems q 0) d) y) (reached_is i (omega arith))))
