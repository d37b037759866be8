-- A leaf pair is measured tile by tile: a rearrangement of all its pairs of places. Assumes nothing.
use Rattle.std.specs.Prelude.{◌≡◌}
use Rattle.std.proofs.Math.Path.{refl, ap}
use Rattle.std.proofs.Common.{sym, ◌∙◌, not-suc-le-zero, arith}
use mathlib.Core.List.Permᴰ
use mathlib.Core.List.{List, [], ◌∷◌, ◌++◌, Permᴰ}
use Prim.Native.Nat.{ℕ, zero, suc, ◌+◌, ◌-◌, ◌≤◌, min}
use Rattle.written.specs.Places.{Part, cross}
use Rattle.written.specs.Tiles.{tiles_of, tiles, each, by_tiles}
use Rattle.written.proofs.Laws.Lists.{perm_of_eq, perm_append}
use Rattle.written.proofs.Laws.Places.{Halves, over_nil, cross_left, cross_right}

-- n + 1 places from a on: the first tile, and what is left
abbrev tile : ℕ → ℕ → Part
tile a n = record { from = a; size = min 32 (suc n) }

abbrev left_over : ℕ → ℕ → Part
left_over a n = record { from = a + min 32 (suc n); size = suc n - min 32 (suc n) }

tile_halves : (a n : ℕ) → Halves (record { from = a; size = suc n }) (tile a n) (left_over a n)
tile_halves a n = record { first = refl; then = refl; both = omega arith }

module _ {X : Type 0} where
  each_perm : (g h : Part → List X) (ws : List Part) → ((w : Part) → Permᴰ (g w) (h w)) → Permᴰ (each g ws) (each h ws)
  unfolding each
  each_perm g h [] e = Permᴰ.nil
  each_perm g h (w ∷ ws) e = perm_append (e w) (each_perm g h ws e)

  module _ (f : ℕ → ℕ → List X) where
    none_right : (l : Part) (a : ℕ) → [] ≡ cross f l (record { from = a; size = 0 })
    none_right l a = sym (over_nil (λ p. []) l.from l.size (λ p x y. refl))

    right_tiles : (l : Part) (k a n : ℕ) → n ≤ k → Permᴰ (each (λ y. cross f l y) (tiles_of k a n)) (cross f l (record { from = a; size = n }))
    unfolding each tiles_of
    right_tiles l zero a zero h = perm_of_eq (none_right l a)
    right_tiles l zero a (suc n) h = absurd (not-suc-le-zero h)
    right_tiles l (suc k) a zero h = perm_of_eq (none_right l a)
    right_tiles l (suc k) a (suc n) h =
        Permᴰ.trans
        (Permᴰ.append_left (cross f l (tile a n)) (right_tiles l k (left_over a n).from (left_over a n).size (omega arith)))
        (cross_right f l (record { from = a; size = suc n }) (tile a n) (left_over a n) (tile_halves a n))

    left_tiles : (r : Part) (k a n : ℕ) → n ≤ k → each (λ x. cross f x r) (tiles_of k a n) ≡ cross f (record { from = a; size = n }) r
    unfolding each tiles_of
    left_tiles r zero a zero h = refl
    left_tiles r zero a (suc n) h = absurd (not-suc-le-zero h)
    left_tiles r (suc k) a zero h = refl
    left_tiles r (suc k) a (suc n) h =
        ap (λ (z : List X). cross f (tile a n) r ++ z) (left_tiles r k (left_over a n).from (left_over a n).size (omega arith))
        ∙ cross_left f (record { from = a; size = suc n }) (tile a n) (left_over a n) r (tile_halves a n)

    pub by_tiles_lem : (l r : Part) → Permᴰ (by_tiles f l r) (cross f l r)
    unfolding by_tiles
    by_tiles_lem l r =
        Permᴰ.trans
        (each_perm (λ x. each (λ y. cross f x y) (tiles r)) (λ x. cross f x r) (tiles l) (λ w. right_tiles w r.size r.from r.size (omega arith)))
        (perm_of_eq (left_tiles r l.size l.from l.size (omega arith)))
