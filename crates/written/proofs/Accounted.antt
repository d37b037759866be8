-- Demand 3, "Accounted for": for every two trees that the check accepts, at every radius, NaN included. The only premise is acceptance. Assumes nothing.
-- proofs/Limits.antt bounds the visits and what waits.
use Rattle.std.specs.Prelude.{◌≡◌, Bool, cond, List, ℕ, ◌+◌, ◌*◌, ◌<◌, T, Float}
use Rattle.std.proofs.Math.Path.{refl, sym, ap₂}
use Rattle.std.proofs.Common.{◌∙◌, arith}
use Rattle.std.proofs.Math.Bool.{true, false}
use Rattle.std.specs.Float.Ieee.{le}
use Rattle.written.specs.Places.{Part, In, ind}
use Rattle.written.specs.LentTree.{places}
use Rattle.written.specs.Boxes.{Trees, distance, Edge}
use Rattle.written.specs.Visits.{Fate, measured, ruled, whole, Seen, Ends}
use Rattle.written.specs.NodePairs.{Side, tree_of, NodePair, left_part, right_part, area, all_places}
use Rattle.written.specs.RadiusWalk.{pair_of, passing, keep, walk}
use Rattle.written.specs.Nearest.{Neighbour, answer_at, offer, near_walk, no_points, nearest}
use Rattle.written.specs.Totals.{none, accounted_for, totals_of, walk_totals, near_totals, walk_times, near_times}
use Rattle.written.specs.Answers.{Accepts}
use Rattle.written.proofs.Right.{nearest_least}
use Rattle.written.proofs.Laws.Places.{ind_in}
use Rattle.written.proofs.Laws.Visits.{ends_map}
use Rattle.written.proofs.Laws.Covered.{Tiled, Fair, ends_at, under_in, totals_area, totals_once}
use Rattle.written.proofs.Laws.RadiusWalk.{Accepted}
use Rattle.written.proofs.Laws.Pairs.{kept_none, kept_one, walk_tiled, walk_sound, walk_left, walk_right}
use Rattle.written.proofs.Laws.Nearest.{HeldOffer, near_carried, near_left, near_right}
use Rattle.written.proofs.Laws.Points.{no_product}
use Rattle.written.proofs.Laws.Accepted.{both_accepted}

here_once : (m n p q : ℕ) → p < m → q < n → ind p (record { from = 0; size = m }) * ind q (record { from = 0; size = n }) ≡ 1
here_once m n p q h k =
    let x : In p (record { from = 0; size = m }) = record { above = omega arith; below = omega arith } in
    let y : In q (record { from = 0; size = n }) = record { above = omega arith; below = omega arith } in
    rw (ind_in x, ind_in y) refl

module _ (j : Trees) (ok : Accepts j) where
  abbrev trees : (x : Side) → Accepted j.axes (tree_of j x)
  trees = both_accepted j ok

  module _ (edge : Edge) (radius : Float) (counting : Bool) where
    -- each pair of places is measured, ruled out or taken whole, exactly once
    pub each_pair_once : (p q : ℕ) → p < places j.left → q < places j.right
        → walk_times j edge radius counting measured p q + walk_times j edge radius counting ruled p q + walk_times j edge radius counting whole p q ≡ 1
    each_pair_once p q h k =
        totals_once (left_part j) (right_part j) p q (walk j edge radius counting) (walk_tiled j trees edge radius counting)
        ∙ ap₂ (λ (l r : Part). ind p l * ind q r) (walk_left j trees edge radius counting) (walk_right j trees edge radius counting)
        ∙ here_once (places j.left) (places j.right) p q h k

    -- the three totals add up to the product of the point numbers
    pub totals_add_up : accounted_for (walk_totals j edge radius counting) ≡ places j.left * places j.right
    unfolding walk_totals
    totals_add_up =
        totals_area (left_part j) (right_part j) (walk j edge radius counting) (walk_tiled j trees edge radius counting)
        ∙ ap₂ (λ (l r : Part). l.size * r.size) (walk_left j trees edge radius counting) (walk_right j trees edge radius counting)

    -- no pair ruled out would have passed, none taken whole would have failed
    pub ruled_out_would_not_pass : (p q : ℕ) → 0 < walk_times j edge radius counting ruled p q → passing j edge radius p q ≡ false
    ruled_out_would_not_pass p q h =
        let v = ends_at (left_part j) (right_part j) (Fair (left_part j) (right_part j) (keep j edge radius)) ruled p q (walk j edge radius counting) (walk_sound j trees edge radius counting) h in
        unfold keep in (kept_none (pair_of j edge radius p q) (passing j edge radius p q) (v.1 p q v.2 v.3))

    pub whole_would_not_fail : (p q : ℕ) → 0 < walk_times j edge radius counting whole p q → passing j edge radius p q ≡ true
    whole_would_not_fail p q h =
        let v = ends_at (left_part j) (right_part j) (Fair (left_part j) (right_part j) (keep j edge radius)) whole p q (walk j edge radius counting) (walk_sound j trees edge radius counting) h in
        unfold keep in (kept_one (pair_of j edge radius p q) (passing j edge radius p q) (v.1 p q v.2 v.3))

  -- ---- nearest

  near_tiled : Tiled {S = Seen (List Neighbour) NodePair} (λ v. left_part j v.pair) (λ v. right_part j v.pair) (near_walk j).0
  unfolding near_walk
  near_tiled = (near_carried j trees).tiled

  near_times_lem : (p q : ℕ) → near_times j measured p q + near_times j ruled p q + near_times j whole p q ≡ ind p (all_places j.left) * ind q (all_places j.right)
  near_times_lem p q =
      totals_once (λ v. left_part j v.pair) (λ v. right_part j v.pair) p q (near_walk j).0 near_tiled
      ∙ ap₂ (λ (l r : Part). ind p l * ind q r) (near_left j trees) (near_right j trees)

  pub near_each_pair_once : (p q : ℕ) → p < places j.left → q < places j.right → near_times j measured p q + near_times j ruled p q + near_times j whole p q ≡ 1
  near_each_pair_once p q h k = near_times_lem p q ∙ here_once (places j.left) (places j.right) p q h k

  pub near_totals_add_up : accounted_for (near_totals j) ≡ places j.left * places j.right
  unfolding near_totals
  near_totals_add_up = go (no_points j) refl
    where
      go : (b : Bool) → no_points j ≡ b → accounted_for (cond b none (totals_of (λ v. area j v.pair) (near_walk j).0)) ≡ places j.left * places j.right
      go true e = sym (no_product j e)
      go false e =
          totals_area (λ v. left_part j v.pair) (λ v. right_part j v.pair) (near_walk j).0 near_tiled
          ∙ ap₂ (λ (l r : Part). l.size * r.size) (near_left j trees) (near_right j trees)

  -- at each visit ruled out, the answer then held of a left place was no farther than any right place of the visit
  abbrev pub HeldNoFarther : Seen (List Neighbour) NodePair → Fate → Type 0
  HeldNoFarther v measured = Unit {0}
  HeldNoFarther v ruled = (p q : ℕ) → In p (left_part j v.pair) → In q (right_part j v.pair) → T (le (answer_at v.held p).distance (distance j p q))
  HeldNoFarther v whole = Unit {0}

  offered : (v : Seen (List Neighbour) NodePair) (k : Fate) → HeldOffer j v k → HeldNoFarther v k
  unfolding offer
  offered v measured h = tt
  offered v ruled h = h
  offered v whole h = tt

  pub ruled_out_was_no_nearer : Ends HeldNoFarther (near_walk j).0
  unfolding near_walk
  ruled_out_was_no_nearer = ends_map offered (near_walk j).0 (near_carried j trees).held

  -- so no pair ruled out would have lowered a final distance
  pub ruled_out_would_not_lower : (p q : ℕ) → 0 < near_times j ruled p q → T (le (answer_at (nearest j) p).distance (distance j p q))
  ruled_out_would_not_lower p q h =
      let x = under_in (left_part j) (right_part j) p q (all_places j.left) (all_places j.right) (omega (arith, near_times_lem p q)) in
      nearest_least j ok p (omega (arith, x.0)) (omega (arith, x.1)) q (omega (arith, x.1))
