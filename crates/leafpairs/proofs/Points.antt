-- One left point against a right tile: the distances that its row holds, and the pairs that it keeps. Assumes nothing.
use mathlib.Core.Path.{◌≡◌, refl, sym, ap, ◌∙◌}
use mathlib.Core.List.{List}
use mathlib.Core.Bool.{Bool}
use Prim.Native.Nat.{ℕ, ◌+◌, ◌-◌, ◌*◌, ◌≤◌, ◌<◌}
use native.Mathlib.Omega.{arith}
use lib.ListN.{length, get_or, take, drop, length-map, length-drop}
use lib.Seq.{length-take-le}
use lib.Ieee.{Float, nan}
use Rattle.written.specs.Boxes.{Edge, passes}
use Rattle.cursor.specs.Tiles.{tile-read}
use Rattle.leaf.specs.Sums.{Holds, sum_to, row, reached, passing, hits}
use Rattle.leaf.specs.Kept.{keeps, of_point, Countable}
use Rattle.leaf.proofs.Growing.{last_axis}
use Rattle.leaf.proofs.Hits.{hits_few}
use Rattle.leaf.proofs.Keeping.{keeps_is, distance_is}
use Rattle.rooms.specs.Rooms.{Filling, puts}
use Rattle.rooms.specs.Emitted.{places_of, pairs_at, Emits}
use Rattle.rooms.proofs.Places.{hits_same, places_many, places_below_lem, over_places}

-- so many pass, by the row itself
pub hits_row : (edge : Edge) (radius : Float) (dists : List Float) (f : ℕ → Float) {m : ℕ} (n n' : ℕ) → n' ≡ n → Holds dists n' f → m ≡ hits (passing edge radius f) n' → m ≡ hits (passing edge radius (row dists)) n
hits_row edge radius dists f n n' e held many = many ∙ hits_same (passing edge radius f) (passing edge radius (row dists)) n' (λ j h. ap (passes edge radius) (sym (held j h))) ∙ ap (hits (passing edge radius (row dists))) e

pub part_size : (l : List ℕ) (a e : ℕ) → a ≤ e → e ≤ length l → length (take (e - a) (drop a l)) ≡ e - a
part_size l a e h k = length-take-le (e - a) (drop a l) (omega (arith, length-drop a l))

module _ (K : ℕ) (litems : List ℕ) (lcoords : List Float) (p : ℕ) (ritems : List ℕ) (rcoords : List Float) (ra : ℕ) where
  abbrev to_tile : ℕ → ℕ → Float
  to_tile = sum_to lcoords (length litems) p rcoords (length ritems) ra

  -- once the last axis is added, the row holds the distances
  pub measured : (m : ℕ) (sums dists column : List Float) → 0 < K
      → Holds sums m (to_tile (K - 1))
      → column ≡ take m (drop ((K - 1) * length ritems + ra) rcoords)
      → length column ≡ m
      → Holds dists (length column) (reached sums (get_or lcoords ((K - 1) * length litems + p) nan) column)
      → Holds dists m (to_tile K)
  measured m sums dists column some held lent many last j h = last j (omega arith) ∙ last_axis lcoords (length litems) p rcoords (length ritems) ra K m sums column some held lent j h

  module _ (radius : Float) (edge : Edge) (re : ℕ) (dists : List Float) (held : Holds dists (re - ra) (to_tile K)) where
    abbrev pub tested : ℕ → Bool
    tested = passing edge radius (row dists)

    -- what is kept, by the places that pass
    pub point_pairs : of_point (keeps K radius edge litems lcoords ritems rcoords) p ra re ≡ pairs_at dists (get_or litems p 0) (take (re - ra) (drop ra ritems)) (places_of tested (re - ra))
    point_pairs = over_places (keeps K radius edge litems lcoords ritems rcoords p) (λ j. record { left = get_or litems p 0; right = get_or (take (re - ra) (drop ra ritems)) j 0; distance = get_or dists j nan }) tested ra (re - ra) (λ j h.
        keeps_is K radius edge litems lcoords ritems rcoords p (ra + j)
        ∙ rw (tile-read 0 ritems ra (re - ra) j h, held j h, ← distance_is K radius edge litems lcoords ritems rcoords p ra j) refl)

    -- the same for a list of these places: none, all, or those found
    pub point_puts : (s : Filling) (l : List ℕ) → l ≡ places_of tested (re - ra) → puts s (pairs_at dists (get_or litems p 0) (take (re - ra) (drop ra ritems)) l) ≡ puts s (of_point (keeps K radius edge litems lcoords ritems rcoords) p ra re)
    point_puts s l e = ap (puts s) (ap (pairs_at dists (get_or litems p 0) (take (re - ra) (drop ra ritems))) e ∙ sym point_pairs)

    -- and they can be counted
    pub point_emits : (found m : ℕ) (l part : List ℕ) → l ≡ places_of tested (re - ra) → m ≡ hits tested (re - ra) → length part ≡ re - ra → re - ra ≤ 32 → Countable found (of_point (keeps K radius edge litems lcoords ritems rcoords) p ra re) → Emits l m part found
    point_emits found m l part e many size few count =
        let all : length (places_of tested (re - ra)) ≡ hits tested (re - ra) = places_many tested (re - ra) in
        let kept : length (of_point (keeps K radius edge litems lcoords ritems rcoords) p ra re) ≡ length (places_of tested (re - ra)) = ap length point_pairs ∙ length-map (places_of tested (re - ra)) _ in
        rw e
        (record {
          many = omega arith;
          few = omega (arith, hits_few tested (re - ra));
          in_tile = λ i h. rw size (places_below_lem tested (re - ra) i (omega arith));
          tile_small = omega arith;
          countable = omega arith;
        })
