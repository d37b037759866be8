-- Document 01, "Totals": visits, measured, ruled out and taken whole of each walk; and (request K2) the most entries that waited.
-- Definitions alone. Assumes nothing.
use Rattle.std.specs.Prelude.{Bool, cond, ℕ, ◌+◌, ◌*◌, Float}
use Rattle.written.specs.Places.{ind}
use Rattle.written.specs.Boxes.{Trees, Edge}
use Rattle.written.specs.Visits.{Fate, measured, ruled, whole, Run, visits, deepest, deepest_far, sum, total}
use Rattle.written.specs.NodePairs.{NodePair, left_part, right_part, area}
use Rattle.written.specs.RadiusWalk.{walk}
use Rattle.written.specs.Nearest.{near_walk, no_points}

pub record Totals : Type 0 where
  pub visits : ℕ
  pub measured : ℕ
  pub ruled_out : ℕ
  pub whole : ℕ

abbrev pub none : Totals
none = record { visits = 0; measured = 0; ruled_out = 0; whole = 0 }

-- the three of pairs of places together
abbrev pub accounted_for : Totals → ℕ
accounted_for t = t.measured + t.ruled_out + t.whole

-- node pairs examined, and the product of points under the node pair at each visit that ends
abbrev pub totals_of : {S : Type 0} → (S → ℕ) → Run S → Totals
totals_of size r = record { visits = visits r; measured = total size measured r; ruled_out = total size ruled r; whole = total size whole r }

-- the radius walk's, for pairs (false) and for counts (true)
unfoldable pub walk_totals : Trees → Edge → Float → Bool → Totals
unfolding walk visits sum
walk_totals j edge radius counting = totals_of (area j) (walk j edge radius counting)

-- nearest's: all 0 if a tree holds no points
unfoldable pub near_totals : Trees → Totals
unfolding near_walk visits sum
near_totals j = let totals = totals_of (λ v. area j v.pair) (near_walk j).0 in cond (no_points j) none totals

-- 1 where the places p and q are under the node pair
abbrev pub pair_under : Trees → ℕ → ℕ → NodePair → ℕ
pair_under j p q s = ind p (left_part j s) * ind q (right_part j s)

-- how many visits that end with the fate k have the places p and q under them
abbrev pub walk_times : Trees → Edge → Float → Bool → Fate → ℕ → ℕ → ℕ
walk_times j edge radius counting k p q = total (pair_under j p q) k (walk j edge radius counting)

abbrev pub near_times : Trees → Fate → ℕ → ℕ → ℕ
near_times j k p q = total (λ v. pair_under j p q v.pair) k (near_walk j).0

-- the most entries that ever waited at once
unfoldable pub walk_deepest : Trees → Edge → Float → Bool → ℕ
unfolding walk deepest
walk_deepest j edge radius counting = deepest 0 (walk j edge radius counting)

unfoldable pub near_deepest : Trees → ℕ
unfolding near_walk deepest_far
near_deepest j = let waiting = deepest_far 0 (near_walk j).0 in cond (no_points j) 0 waiting
