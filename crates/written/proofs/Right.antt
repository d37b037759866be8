-- Demand 2, "Right": for every two trees that the check accepts, at every radius, NaN included. The only premise is acceptance. Assumes nothing.
use Rattle.std.specs.Prelude.{◌≡◌, ◌⊎◌, false, ℕ, ◌<◌, length, T, Float}
use Rattle.std.proofs.Common.{sym, ◌∙◌, subst, arith}
use Rattle.std.proofs.Math.Path.{ap}
use mathlib.Core.List.{Permᴰ}
use Rattle.std.proofs.Math.Logic.{inl, inr}
use Rattle.std.specs.Float.{inf}
use Rattle.std.specs.Float.Ieee.{le}
use Rattle.written.specs.Places.{In}
use Rattle.written.specs.LentTree.{Tree, places, item, root, the_root, part}
use Rattle.written.specs.Boxes.{Trees, distance, Edge}
use Rattle.written.specs.NodePairs.{tree_of, Side, left_side, right_side}
use Rattle.written.specs.RadiusWalk.{all_against_all, found, count}
use Rattle.written.specs.Nearest.{Neighbour, unset, answer_at, offer, near_walk, nearest}
use Rattle.written.specs.Answers.{Accepts}
use Rattle.written.proofs.Laws.Lists.{perm_length}
use Rattle.written.proofs.Laws.LentTree.{Laid, part_in, part_root}
use Rattle.written.proofs.Laws.Boxes.{distance_antisymm}
use Rattle.written.proofs.Laws.RadiusWalk.{Accepted}
use Rattle.written.proofs.Laws.Pairs.{finite_at, found_perm, count_all}
use Rattle.written.proofs.Laws.Nearest.{near_carried}
use Rattle.written.proofs.Laws.Neighbours.{get_unset, le_inf}
use Rattle.written.proofs.Laws.Accepted.{both_accepted}
use Rattle.written.proofs.Laws.Points.{has_points}

module _ (j : Trees) (ok : Accepts j) where
  abbrev trees : (x : Side) → Accepted j.axes (tree_of j x)
  trees = both_accepted j ok

  -- ---- pairs and counts

  -- the list found is a rearrangement of all-against-all, each pair of places once
  pub found_is_rearrangement : (edge : Edge) (radius : Float) → Permᴰ (found j edge radius) (all_against_all j edge radius)
  found_is_rearrangement = found_perm j trees

  -- the count is its length, in both readings
  pub count_is_its_length : (edge : Edge) (radius : Float) → count j edge radius ≡ length (found j edge radius)
  count_is_its_length edge radius = count_all j trees edge radius ∙ sym (perm_length (found_is_rearrangement edge radius))

  -- ---- nearest

  -- where both trees hold points, the answers are the walk's
  walk_answers : (p q : ℕ) → p < places j.left → q < places j.right → nearest j ≡ (near_walk j).1
  unfolding nearest
  walk_answers p q h k = rw (has_points j p q h k)

  in_root : (t : Tree) → Laid t → (p : ℕ) → p < places t → In p (part t (root t))
  in_root t l p h = rw (part_root t l) (record { above = omega arith; below = omega arith })

  least : (p q : ℕ) → p < places j.left → q < places j.right → T (le (answer_at (near_walk j).1 p).distance (distance j p q))
  unfolding near_walk offer
  least p q h k =
      (near_carried j trees).settled.low p q (in_root j.left (trees left_side).laid p h) (in_root j.right (trees right_side).laid q k)

  origin : (p : ℕ) → (answer_at (near_walk j).1 p ≡ unset) ⊎ ((q : ℕ) × (q < places j.right) × (answer_at (near_walk j).1 p ≡ offer j p q))
  unfolding near_walk
  origin p =
      elim ((near_carried j trees).settled.«from» p) [
        | inl e ↦ inl (e ∙ get_unset (places j.left) p)
        | inr x ↦ inr (x.0, part_in j.right (root j.right) (trees right_side).laid the_root x.1, x.2)
      ]

  -- with points on both sides there is an answer for each left place
  pub nearest_for_each : 0 < places j.left → 0 < places j.right → length (nearest j) ≡ places j.left
  nearest_for_each h k = rw (walk_answers 0 0 h k) size
    where
      size : length (near_walk j).1 ≡ places j.left
      size = unfold near_walk in (near_carried j trees).fine.size

  module _ (p : ℕ) (h : p < places j.left) (some : 0 < places j.right) where
    -- no rounded distance of the place is below its answer's
    pub nearest_least : (q : ℕ) → q < places j.right → T (le (answer_at (nearest j) p).distance (distance j p q))
    nearest_least q k = rw (walk_answers p q h k) (least p q h k)

    -- the answer is a right place's item and distance; or item 0 at +inf, when every distance overflows
    pub nearest_item : ((q : ℕ) × (q < places j.right) × ((answer_at (nearest j) p).item ≡ item j.right q) × ((answer_at (nearest j) p).distance ≡ distance j p q))
        ⊎ ((answer_at (nearest j) p ≡ unset) × ((q : ℕ) → q < places j.right → distance j p q ≡ inf false))
    nearest_item = rw (walk_answers p 0 h some) (go (origin p))
      where
        offered : (q : ℕ) (y : Neighbour) → y ≡ offer j p q → (y.item ≡ item j.right q) × (y.distance ≡ distance j p q)
        offered q y e = unfold offer in (ap (λ (z : Neighbour). z.item) e, ap (λ (z : Neighbour). z.distance) e)

        go : (answer_at (near_walk j).1 p ≡ unset) ⊎ ((q : ℕ) × (q < places j.right) × (answer_at (near_walk j).1 p ≡ offer j p q))
            → ((q : ℕ) × (q < places j.right) × ((answer_at (near_walk j).1 p).item ≡ item j.right q) × ((answer_at (near_walk j).1 p).distance ≡ distance j p q))
            ⊎ ((answer_at (near_walk j).1 p ≡ unset) × ((q : ℕ) → q < places j.right → distance j p q ≡ inf false))
        go (inl e) = inr (e, λ q k. le_inf (distance j p q) (subst (λ (x : Float). T (le x (distance j p q))) (ap (λ (z : Neighbour). z.distance) e) (least p q h k)))
        go (inr x) = let o = offered x.0 (answer_at (near_walk j).1 p) x.2 in inl (x.0, x.1, o.0, o.1)

    -- the answer's distance is one of the place's distances
    pub nearest_attained : (q : ℕ) × (q < places j.right) × ((answer_at (nearest j) p).distance ≡ distance j p q)
    nearest_attained = elim nearest_item [ inl x ↦ (x.0, x.1, x.3) | inr x ↦ (0, some, ap (λ (z : Neighbour). z.distance) x.0 ∙ sym (x.1 0 some)) ]

    -- so whichever place is nearest, ties included, the answer's distance is its distance, bit for bit
    pub nearest_only : (q : ℕ) → q < places j.right → ((r : ℕ) → r < places j.right → T (le (distance j p q) (distance j p r))) → (answer_at (nearest j) p).distance ≡ distance j p q
    nearest_only q k all =
        let a = nearest_attained in
        a.2
        ∙ distance_antisymm j p a.0 q (finite_at j trees left_side p h) (finite_at j trees right_side a.0 a.1) (finite_at j trees right_side q k)
        (subst (λ (x : Float). T (le x (distance j p q))) a.2 (nearest_least q k)) (all a.0 a.1)
