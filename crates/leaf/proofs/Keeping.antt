-- What is kept of two places, against the distances that the code sums. Assumes nothing.
use mathlib.Core.Path.{◌≡◌, refl, sym, ap, ◌∙◌}
use mathlib.Core.List.{List}
use mathlib.Core.Bool.{Bool, true, false, cond}
use Prim.Native.Nat.{ℕ, ◌+◌, ◌-◌, ◌*◌, ◌<◌}
use lib.ListN.{length, get_or, take, drop}
use lib.Ieee.{Float, nan}
use Rattle.written.specs.Boxes.{Edge, distance, passes}
use Rattle.written.specs.RadiusWalk.{Found, keep, keep_if}
use Rattle.written.specs.Places.{over}
use Rattle.leaf.proofs.Growing.{last_axis}
use Rattle.leaf.proofs.Hits.{hits_over}
use Rattle.leaf.specs.Lent.{join_of}
use Rattle.leaf.specs.Kept.{keeps}
use Rattle.leaf.specs.Sums.{Holds, sum_to, reached, passing, hits}

keep_if_length : (b : Bool) (x : Found) → length (keep_if b x) ≡ cond b 1 0
keep_if_length true x = refl
keep_if_length false x = refl

module _ (K : ℕ) (radius : Float) (edge : Edge) (litems : List ℕ) (lcoords : List Float) (ritems : List ℕ) (rcoords : List Float) where
  -- a pair where the distance passes, else none
  pub keeps_is : (p q : ℕ)
      → let d = distance (join_of K litems lcoords ritems rcoords) p q in
      keeps K radius edge litems lcoords ritems rcoords p q ≡ keep_if (passes edge radius d) (record { left = get_or litems p 0; right = get_or ritems q 0; distance = d })
  unfolding keep
  keeps_is p q = refl

  -- the distance of a left place and the j-th right place from a on is the whole sum
  pub distance_is : (p a j : ℕ) → distance (join_of K litems lcoords ritems rcoords) p (a + j) ≡ sum_to lcoords (length litems) p rcoords (length ritems) a K j
  unfolding distance
  distance_is p a j = refl

  pub kept_one : (p a j : ℕ) (d : Float) → d ≡ sum_to lcoords (length litems) p rcoords (length ritems) a K j → length (keeps K radius edge litems lcoords ritems rcoords p (a + j)) ≡ cond (passes edge radius d) 1 0
  kept_one p a j d e =
      let far = distance (join_of K litems lcoords ritems rcoords) p (a + j) in
      ap length (keeps_is p (a + j)) ∙ keep_if_length (passes edge radius far) _
      ∙ ap (λ (x : Float). cond (passes edge radius x) 1 0) (distance_is p a j ∙ sym e)

  -- how many of a tile pass, from the sums of all axes but the last
  pub tile_passing : (p a m : ℕ) (sums column : List Float) (found : ℕ)
      → 0 < K
      → Holds sums m (sum_to lcoords (length litems) p rcoords (length ritems) a (K - 1))
      → column ≡ take m (drop ((K - 1) * length ritems + a) rcoords)
      → length column ≡ m
      → found ≡ hits (passing edge radius (reached sums (get_or lcoords ((K - 1) * length litems + p) nan) column)) (length column)
      → found ≡ length (over (keeps K radius edge litems lcoords ritems rcoords p) a m)
  tile_passing p a m sums column found some so_far lent many counted =
      counted ∙ ap (hits _) many
      ∙ hits_over _ (keeps K radius edge litems lcoords ritems rcoords p) a m
      (λ j l. kept_one p a j _ (last_axis lcoords (length litems) p rcoords (length ritems) a K m sums column some so_far lent j l))
