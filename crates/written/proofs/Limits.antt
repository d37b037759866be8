-- How much a walk visits and how much waits, whatever the trees hold; and how large any number of an answer gets for two trees that the check accepts. Assumes nothing.
use Rattle.std.specs.Prelude.{◌≡◌, refl, List, Bool, cond, ℕ, zero, suc, ◌+◌, ◌-◌, ◌*◌, ◌^◌, ◌≤◌, Float}
use Rattle.std.proofs.Math.Bool.{true, false}
use Rattle.std.proofs.Common.{zero-mul, mul-le-mul, length-append}
use native.Mathlib.Omega.{arith}
use Rattle.std.proofs.Math.ListN.{length}
use Rattle.written.specs.Places.{over}
use Rattle.written.specs.LentTree.{places, leaves}
use Rattle.written.specs.Check.{rule₂}
use Rattle.written.specs.Boxes.{Trees, Edge}
use Rattle.written.specs.Visits.{whole, deepest_far}
use Rattle.written.specs.NodePairs.{stem_levels, area}
use Rattle.written.specs.RadiusWalk.{keep_if, pair_of, passing, keep, all_against_all, walk, found, count}
use Rattle.written.specs.Nearest.{near_walk, no_points}
use Rattle.written.specs.Totals.{none, accounted_for, totals_of, walk_totals, near_totals, walk_deepest, near_deepest}
use Rattle.written.specs.Answers.{Accepts}
use Rattle.written.proofs.Checked.{accepted_means}
use Rattle.written.proofs.Right.{found_is_rearrangement, count_is_its_length}
use Rattle.written.proofs.Accounted.{totals_add_up, near_totals_add_up}
use Rattle.written.proofs.Laws.Lists.{perm_length}
use Rattle.written.proofs.Laws.Visits.{visits_bound, deepest_bound, deepest_far_bound, total_none}
use Rattle.written.proofs.Laws.LentTree.{levels_least}
use Rattle.written.proofs.Laws.Pairs.{height_walk, walk_not_whole}
use Rattle.written.proofs.Laws.Nearest.{height_near, near_not_whole}

-- ---- visits and waiting, whatever the trees hold

-- at most 2^(a+b+1) - 1 node pairs are visited
pub visits_bounded : (j : Trees) (edge : Edge) (radius : Float) (counting : Bool) → (walk_totals j edge radius counting).visits ≤ 2 ^ (stem_levels j + 1) - 1
unfolding walk_totals
visits_bounded j edge radius counting = visits_bound (stem_levels j) (walk j edge radius counting) (height_walk j edge radius counting)

pub near_visits_bounded : (j : Trees) → (near_totals j).visits ≤ 2 ^ (stem_levels j + 1) - 1
unfolding near_totals
near_visits_bounded j = go (no_points j)
  where
    go : (b : Bool) → (cond b none (totals_of (λ v. area j v.pair) (near_walk j).0)).visits ≤ 2 ^ (stem_levels j + 1) - 1
    go true = omega arith
    go false = visits_bound (stem_levels j) (near_walk j).0 (height_near j)

-- at most a+b+1 wait
pub waiting_bounded : (j : Trees) (edge : Edge) (radius : Float) (counting : Bool) → walk_deepest j edge radius counting ≤ stem_levels j + 1
unfolding walk_deepest
waiting_bounded j edge radius counting = omega (arith, deepest_bound 0 (walk j edge radius counting), height_walk j edge radius counting)

pub near_waiting_bounded : (j : Trees) → near_deepest j ≤ stem_levels j + 1
unfolding near_deepest
near_waiting_bounded j = go (no_points j)
  where
    go : (b : Bool) → cond b 0 (deepest_far 0 (near_walk j).0) ≤ stem_levels j + 1
    go true = omega arith
    go false = omega (arith, deepest_far_bound 0 (near_walk j).0, height_near j)

-- only a count takes node pairs whole
pub pairs_take_none_whole : (j : Trees) (edge : Edge) (radius : Float) → (walk_totals j edge radius false).whole ≡ 0
unfolding walk_totals
pairs_take_none_whole j edge radius = total_none whole (area j) (walk j edge radius false) (walk_not_whole j edge radius)

pub nearest_takes_none_whole : (j : Trees) → (near_totals j).whole ≡ 0
unfolding near_totals
nearest_takes_none_whole j = go (no_points j)
  where
    go : (b : Bool) → (cond b none (totals_of (λ v. area j v.pair) (near_walk j).0)).whole ≡ 0
    go true = refl
    go false = total_none whole (λ v. area j v.pair) (near_walk j).0 (near_not_whole j)

-- ---- accepted trees

over_most : {X : Type 0} (g : ℕ → List X) (a n k : ℕ) → ((p : ℕ) → length (g p) ≤ k) → length (over g a n) ≤ n * k
over_most g a zero k e = omega (arith, zero-mul k)
over_most g a (suc n) k e = rw length-append (omega (arith, e a, over_most g (suc a) n k e))

module _ (j : Trees) (ok : Accepts j) where
  small_left : (length j.left.starts ≤ 4097) × (places j.left ≤ 65536)
  small_left = let k = (accepted_means j.axes j.left).0 ok.0 rule₂ in (k.1, k.2)

  small_right : (length j.right.starts ≤ 4097) × (places j.right ≤ 65536)
  small_right = let k = (accepted_means j.axes j.right).0 ok.1 rule₂ in (k.1, k.2)

  pub levels_fit : stem_levels j ≤ 24
  levels_fit =
      let l : leaves j.left ≤ 2 ^ 12 = omega (arith, small_left.0) in
      let r : leaves j.right ≤ 2 ^ 12 = omega (arith, small_right.0) in
      omega (arith, levels_least (leaves j.left) 12 l, levels_least (leaves j.right) 12 r)

  -- a stack of 25 entries never runs over
  pub waiting_fits : (edge : Edge) (radius : Float) (counting : Bool) → walk_deepest j edge radius counting ≤ 25
  waiting_fits edge radius counting = omega (arith, waiting_bounded j edge radius counting, levels_fit)

  pub near_waiting_fits : near_deepest j ≤ 25
  near_waiting_fits = omega (arith, near_waiting_bounded j, levels_fit)

  product_fits : places j.left * places j.right ≤ 2 ^ 32
  product_fits = mul-le-mul small_left.1 small_right.1

  -- the totals are at most 2^32
  pub totals_fit : (edge : Edge) (radius : Float) (counting : Bool) → accounted_for (walk_totals j edge radius counting) ≤ 2 ^ 32
  totals_fit edge radius counting = omega (arith, totals_add_up j ok edge radius counting, product_fits)

  pub near_totals_fit : accounted_for (near_totals j) ≤ 2 ^ 32
  near_totals_fit = omega (arith, near_totals_add_up j ok, product_fits)

  -- and so are the number found and the count
  keep_most : (edge : Edge) (radius : Float) (p q : ℕ) → length (keep j edge radius p q) ≤ 1
  unfolding keep
  keep_most edge radius p q = go (passing j edge radius p q)
    where
      go : (b : Bool) → length (keep_if b (pair_of j edge radius p q)) ≤ 1
      go true = omega arith
      go false = omega arith

  pub found_fits : (edge : Edge) (radius : Float) → length (found j edge radius) ≤ 2 ^ 32
  found_fits edge radius =
      let all : length (all_against_all j edge radius) ≤ places j.left * places j.right =
      over_most (λ p. over (keep j edge radius p) 0 (places j.right)) 0 (places j.left) (places j.right)
      (λ p. omega (arith, over_most (keep j edge radius p) 0 (places j.right) 1 (λ q. keep_most edge radius p q))) in
      omega (arith, perm_length (found_is_rearrangement j ok edge radius), product_fits)

  pub count_fits : (edge : Edge) (radius : Float) → count j edge radius ≤ 2 ^ 32
  count_fits edge radius = omega (arith, count_is_its_length j ok edge radius, found_fits edge radius)
