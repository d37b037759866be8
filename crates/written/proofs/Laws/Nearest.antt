-- The nearest walk over two accepted trees: each answer's distance is the least, and what is ruled out could not have lowered it. Assumes nothing.
use Rattle.std.specs.Prelude.{◌≡◌, List, Bool, false, ◌&&◌, ◌⊎◌, length, replicate, Float}
use Rattle.std.proofs.Math.Path.{refl}
use Rattle.std.proofs.Common.{◌∙◌, zero-add, arith}
use Rattle.std.proofs.Math.Bool.{true, cond}
use Rattle.std.proofs.Math.Logic.{inl, inr}
use Prim.Native.Nat.{ℕ, ◌≤◌, ◌<◌}
use Rattle.std.proofs.Math.Decide.{dec_lt}
use Rattle.std.proofs.lemmas.List.{length-replicate}
use Rattle.std.proofs.Math.Dec.{T}
use Rattle.std.specs.Float.{inf}
use Rattle.std.specs.Float.Ieee.{le, is_nan}
use Rattle.rounding.proofs.Order.{known, le_refl, le_trans}
use Rattle.rounding.specs.Distance.{zero₊}
use Rattle.written.specs.Places.{In, inside}
use Rattle.written.specs.LentTree.{places, is_leaf}
use Rattle.written.specs.Boxes.{Trees, lower, under, beyond}
use Rattle.written.specs.Visits.{Fate, whole, is, Step, Seen, seen, Ends}
use Rattle.written.specs.NodePairs.{Side, left_side, right_side, NodePair, tree_of, root_pair, stem_levels, no_leaf, picked, split, descend, visit, left_part, right_part, all_places}
use Rattle.written.specs.Nearest.{Neighbour, unset, answer_at, improve, at_each, offer, update, farthest, near_ruled_out, near_step, near_walk}
use Rattle.written.proofs.Laws.Tests.{gave, either, not_both}
use Rattle.written.proofs.Laws.Places.{inside_true}
use Rattle.written.proofs.Laws.Visits.{at, height}
use Rattle.written.proofs.Laws.Walks.{Allows}
use Rattle.written.proofs.Laws.LentTree.{part_root}
use Rattle.written.proofs.Laws.Boxes.{distance_known}
use Rattle.written.proofs.Laws.RadiusWalk.{Accepted, Good, good_start, law_descend, no_leaf_lem, visit_not_whole}
use Rattle.written.proofs.Laws.Pairs.{finite_at, place_of, lower_here}
use Rattle.written.proofs.Laws.Carried.{at_carries, height_carries, carry_fates, Settled, NoFarther, CarryLaw, Carried, carry_onward, carried}
use Rattle.written.proofs.Laws.Neighbours.{length_at_each, get_at_each, out_at_each, Improved, improved, largest_law, get_unset}

zero_known : T (known zero₊)
unfolding is_nan
zero_known = tt

inf_known : T (known (inf false))
unfolding is_nan
inf_known = tt

abbrev pub beginning : Trees → List Neighbour
beginning j = replicate (places j.left) unset

-- ---- whatever the trees

pub height_near : (j : Trees) → height (near_walk j).0 ≤ stem_levels j
unfolding near_walk
height_near j = height_carries (near_step j) (update j) (stem_levels j) (beginning j) (root_pair j) _

-- nothing is taken whole
pub near_not_whole : (j : Trees) → Ends (λ v k. is whole k ≡ 0) (near_walk j).0
unfolding near_walk
near_not_whole j = carry_fates (near_step j) (update j) (λ k. is whole k ≡ 0) refl allowed (stem_levels j) (beginning j) (root_pair j)
  where
    allowed : (c : List Neighbour) (s : NodePair) → Allows (λ k. is whole k ≡ 0) (near_step j c s)
    allowed c s = unfold near_step in visit_not_whole j (near_ruled_out j c s) s

-- ---- accepted trees

-- one answer for each left place, each distance a number
pub record Fine (j : Trees) (c : List Neighbour) : Type 0 where
  pub size : length c ≡ places j.left
  pub num : (p : ℕ) → T (known (answer_at c p).distance)

abbrev pub Settles : (j : Trees) → List Neighbour → List Neighbour → NodePair → Type 0
Settles j = Settled (near_step j) (update j) (left_part j) (right_part j) answer_at (λ y. y.distance) (offer j) (λ x y. T (le x y))

-- what is to hold of one visit
abbrev VisitLaw : (j : Trees) → ℕ → List Neighbour → NodePair → Step NodePair → Type 0
VisitLaw j = CarryLaw (near_step j) (update j) (left_part j) (right_part j) answer_at (λ y. y.distance) (offer j) (λ x y. T (le x y)) (Fine j) (Good j)

-- where a visit is ruled out, the answer then held is no farther than what measuring would offer
abbrev pub HeldOffer : (j : Trees) → Seen (List Neighbour) NodePair → Fate → Type 0
HeldOffer j = NoFarther (near_step j) (update j) (left_part j) (right_part j) answer_at (λ y. y.distance) (offer j) (λ x y. T (le x y))

-- what then holds of the walk
abbrev pub NearCarried : (j : Trees) → Type 0
NearCarried j = Carried (near_step j) (update j) (left_part j) (right_part j) answer_at (λ y. y.distance) (offer j) (λ x y. T (le x y)) (Fine j) (Good j) (stem_levels j) (beginning j) (root_pair j)

module _ (j : Trees) (ok : (x : Side) → Accepted j.axes (tree_of j x)) where
  offer_known : (p q : ℕ) → p < places j.left → q < places j.right → T (known (offer j p q).distance)
  unfolding offer
  offer_known p q h k = distance_known j p q (finite_at j ok left_side p h) (finite_at j ok right_side q k)

  offer_low : (d : ℕ) (s : NodePair) → Good j d s → (p q : ℕ) → In p (left_part j s) → In q (right_part j s) → T (le (lower j.axes s.boxes) (offer j p q).distance)
  unfolding offer
  offer_low = lower_here j ok

  not_below : (r x : Float) → beyond under r x ≡ true → T (le r x)
  unfolding beyond
  not_below r x e = gave e

  -- ---- a leaf pair's update

  module _ (c : List Neighbour) (s : NodePair) (fine : Fine j c) (in-l : (p : ℕ) → In p (left_part j s) → p < places j.left) (in-r : (q : ℕ) → In q (right_part j s) → q < places j.right) where
    -- an answer stays, its place being none of the left leaf's, or is improved by the right leaf's places
    abbrev Touched : ℕ → Neighbour → Type 0
    Touched p z = ((z ≡ answer_at c p) × (In p (left_part j s) → ⊥)) ⊎ Improved (offer j p) (right_part j s).from (right_part j s).size (answer_at c p) z

    touched : (p : ℕ) → Touched p (answer_at (update j c s) p)
    unfolding update
    touched p = go (dec_lt p (length c))
      where
        change : ℕ → Neighbour → Neighbour
        change k y = cond (inside k (left_part j s)) (improve (offer j k) (right_part j s).from (right_part j s).size y) y

        by : p < length c → (b : Bool) → inside p (left_part j s) ≡ b → Touched p (cond b (improve (offer j p) (right_part j s).from (right_part j s).size (answer_at c p)) (answer_at c p))
        by x true e =
            inr (improved (offer j p) (right_part j s).from (right_part j s).size (λ q i k. offer_known p q (omega (arith, fine.size)) (in-r q (record { above = i; below = k }))) (answer_at c p) (fine.num p))
        by x false e = inl (refl, λ i. not_both (inside_true p (left_part j s) i) e)

        go : Dec (p < length c) → Touched p (answer_at (at_each change 0 c) p)
        go (yes x) = rw (get_at_each change 0 c p x, zero-add) (by x (inside p (left_part j s)) refl)
        go (no x) = inl (out_at_each change 0 c p (omega arith), λ i. x (omega (arith, fine.size, in-l p i)))

    fine_update : Fine j (update j c s)
    fine_update = record { size = unfold update in (length_at_each _ 0 c ∙ fine.size); num = λ p. go p (touched p) }
      where
        go : (p : ℕ) → Touched p (answer_at (update j c s) p) → T (known (answer_at (update j c s) p).distance)
        go p (inl x) = rw x.0 (fine.num p)
        go p (inr x) = x.num

    settles_update : Settles j c (update j c s) s
    settles_update = record { low = λ p q a b. low p q a b (touched p); down = λ p. down p (touched p); «from» = λ p. comes p (touched p) }
      where
        e : List Neighbour
        e = update j c s

        low : (p q : ℕ) → In p (left_part j s) → In q (right_part j s) → Touched p (answer_at e p) → T (le (answer_at e p).distance (offer j p q).distance)
        low p q a b (inl x) = absurd (x.1 a)
        low p q a b (inr x) = x.low q b.above b.below

        down : (p : ℕ) → Touched p (answer_at e p) → T (le (answer_at e p).distance (answer_at c p).distance)
        down p (inl x) = rw x.0 (le_refl (answer_at c p).distance (fine.num p))
        down p (inr x) = x.down

        comes : (p : ℕ) → Touched p (answer_at e p) → (answer_at e p ≡ answer_at c p) ⊎ ((q : ℕ) × In q (right_part j s) × (answer_at e p ≡ offer j p q))
        comes p (inl x) = inl x.0
        comes p (inr x) = elim x.comes [ inl y ↦ inl y | inr y ↦ inr (y.0, record { above = y.1; below = y.2 }, y.3) ]

  -- ---- one visit

  law : (d : ℕ) (c : List Neighbour) (s : NodePair) → Fine j c → Good j d s → VisitLaw j d c s (near_step j c s)
  unfolding near_step
  law d c s fine g = go (near_ruled_out j c s) refl
    where
      -- the answer held is no farther than the largest, the largest not above the bound, the bound not above the distance
      low : near_ruled_out j c s ≡ true → (p q : ℕ) → In p (left_part j s) → In q (right_part j s) → T (le (answer_at c p).distance (offer j p q).distance)
      low e p q a b =
          elim (either (no_leaf s) (beyond under (farthest j c s) (lower j.axes s.boxes)) e) [
            | inl u ↦ absurd (no_leaf_lem j ok d s g u a b)
            | inr u ↦ le_trans (answer_at c p).distance (farthest j c s) (offer j p q).distance ((largest_law c fine.num (left_part j s).from (left_part j s).size zero₊ zero_known).1 p a.above a.below)
                (le_trans (farthest j c s) (lower j.axes s.boxes) (offer j p q).distance (not_below (farthest j c s) (lower j.axes s.boxes) u) (offer_low d s g p q a b))
          ]

      below : (leaf : Bool) → (is_leaf s.left && is_leaf s.right) ≡ leaf → VisitLaw j d c s (descend j leaf s)
      below true v = (fine_update c s fine (place_of j ok d s g left_side) (place_of j ok d s g right_side), settles_update c s fine (place_of j ok d s g left_side) (place_of j ok d s g right_side))
      below false v =
          carry_onward (near_step j) (update j) (left_part j) (right_part j) answer_at (λ y. y.distance) (offer j) (λ x y. T (le x y)) (Fine j) (Good j) d c s
          (split j (picked s) s) (law_descend j ok d s g v)

      go : (out : Bool) → near_ruled_out j c s ≡ out → VisitLaw j d c s (visit j out false s)
      go true e = (fine, record { low = low e; down = λ p. le_refl (answer_at c p).distance (fine.num p); «from» = λ p. inl refl })
      go false e = below (is_leaf s.left && is_leaf s.right) refl

  -- ---- the walk

  fine_beginning : Fine j (beginning j)
  fine_beginning = record { size = length-replicate (places j.left) unset; num = λ p. rw (get_unset (places j.left) p) inf_known }

  pub near_carried : NearCarried j
  near_carried =
      carried (near_step j) (update j) (left_part j) (right_part j) answer_at (λ y. y.distance) (offer j) (λ x y. T (le x y)) (Fine j) (Good j) le_trans law
      (stem_levels j) (beginning j) (root_pair j) fine_beginning (good_start j ok)

  at_near : at (near_walk j).0 ≡ seen (beginning j) (root_pair j)
  unfolding near_walk
  at_near = at_carries (near_step j) (update j) (stem_levels j) (beginning j) (root_pair j) _

  pub near_left : left_part j (at (near_walk j).0).pair ≡ all_places j.left
  near_left = rw at_near (part_root j.left (ok left_side).laid)

  pub near_right : right_part j (at (near_walk j).0).pair ≡ all_places j.right
  near_right = rw at_near (part_root j.right (ok right_side).laid)
