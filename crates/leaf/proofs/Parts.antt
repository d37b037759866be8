-- Parts of a leaf pair: stretches, tiles and points of it. Assumes nothing.
use mathlib.Core.List.{List}
use Prim.Native.Nat.{ℕ, ◌≤◌, ◌<◌}
use native.Mathlib.Omega.{arith}
use lib.ListN.{length, replicate, get_or-replicate}
use lib.Ieee.{Float, nan, binary64, of_bits}
use Rattle.rounding.specs.Distance.{zero₊}
use Rattle.leaf.specs.Lent.{Stretch, LeafPair, TilePair}
use Rattle.leaf.specs.Sums.{Fresh, PointTile}

pub stretch_part : {K : ℕ} {items : List ℕ} {coords : List Float} {from to : ℕ} → Stretch K items coords from to → {a e : ℕ} → from ≤ a → a ≤ e → e ≤ to → Stretch K items coords a e
stretch_part s h i j = record { rising = i; inside = omega arith; few = s.few; whole = s.whole }

module _ {K : ℕ} {litems : List ℕ} {lcoords : List Float} {ritems : List ℕ} {rcoords : List Float} where
  pub left_part : {ls lend rs rend : ℕ} → LeafPair K litems lcoords ls lend ritems rcoords rs rend → {a e : ℕ} → ls ≤ a → a ≤ e → e ≤ lend → LeafPair K litems lcoords a e ritems rcoords rs rend
  left_part l h i j = record { some_axes = l.some_axes; few_axes = l.few_axes; left = stretch_part l.left h i j; right = l.right }

  pub right_part : {ls lend rs rend : ℕ} → LeafPair K litems lcoords ls lend ritems rcoords rs rend → {a e : ℕ} → rs ≤ a → a ≤ e → e ≤ rend → LeafPair K litems lcoords ls lend ritems rcoords a e
  right_part l h i j = record { some_axes = l.some_axes; few_axes = l.few_axes; left = l.left; right = stretch_part l.right h i j }

  -- a left point against a right tile
  pub point_tile : {la le ra re : ℕ} → TilePair K litems lcoords la le ritems rcoords ra re → {p : ℕ} {sums : List Float} → la ≤ p → p < le → Fresh K sums → PointTile K sums lcoords (length litems) p rcoords (length ritems) ra re
  point_tile t h i f =
      let l = t.pair.left in
      let r = t.pair.right in
      record {
        some_axes = t.pair.some_axes;
        few_axes = t.pair.few_axes;
        point = record { whole = l.whole; inside = omega arith };
        point_small = l.few;
        tile = record { whole = r.whole; small = r.few; rising = r.rising; inside = r.inside; narrow = t.narrow };
        fresh = f;
      }

-- ---- a row of 0s serves every number of axes
pub fresh_row : (K : ℕ) → Fresh K (replicate 32 (of_bits binary64 0))
unfolding of_bits
fresh_row K e j l = get_or-replicate 32 j zero₊ nan l
