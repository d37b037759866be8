-- How what is kept of tiles and leaves begins: a left point, a right tile, a left tile, and then the rest. For loops that have the rest still to do. Assumes nothing.
use mathlib.Core.Path.{◌≡◌, refl, sym, ap, subst}
use mathlib.Core.List.{List, [], ◌∷◌, ◌++◌}
use Prim.Native.Nat.{ℕ, zero, suc, ◌+◌, ◌-◌, ◌≤◌, ◌<◌, min}
use native.Mathlib.Omega.{arith}
use Rattle.written.specs.Places.{Part, cross}
use Rattle.written.specs.Tiles.{tiles_of, tiles, each, by_tiles}
use Rattle.written.specs.RadiusWalk.{Found}
use Rattle.leaf.specs.Lent.{stretch}
use Rattle.leaf.specs.Kept.{of_point, of_tile_pair, of_tile_leaf, of_leaves}

-- where the tile that begins at a ends, in a leaf that ends at e
abbrev pub tile_end : ℕ → ℕ → ℕ
tile_end a e = a + min 32 (e - a)

-- ---- a stretch by its first tile

-- more than enough tiles are no more tiles
enough : (k l a n : ℕ) → n ≤ k → n ≤ l → tiles_of k a n ≡ tiles_of l a n
unfolding tiles_of
enough zero zero a n h i = refl
enough zero (suc l) a zero h i = refl
enough zero (suc l) a (suc n) h i = absurd (omega arith)
enough (suc k) zero a zero h i = refl
enough (suc k) zero a (suc n) h i = absurd (omega arith)
enough (suc k) (suc l) a zero h i = refl
enough (suc k) (suc l) a (suc n) h i =
    let m = min 32 (suc n) in
    ap (λ (t : List Part). record { from = a; size = m } ∷ t) (enough k l (a + m) (suc n - m) (omega arith) (omega arith))

first_tile : (a n : ℕ) → tiles_of (suc n) a (suc n) ≡ record { from = a; size = min 32 (suc n) } ∷ tiles_of (suc n - min 32 (suc n)) (a + min 32 (suc n)) (suc n - min 32 (suc n))
unfolding tiles_of
first_tile a n = ap (λ (t : List Part). record { from = a; size = min 32 (suc n) } ∷ t) (enough n (suc n - min 32 (suc n)) (a + min 32 (suc n)) (suc n - min 32 (suc n)) (omega arith) (omega arith))

-- the same over the first place and the number of places
counted_tiles : (a n : ℕ) → tiles (record { from = a; size = suc n }) ≡ stretch a (a + min 32 (suc n)) ∷ tiles (stretch (a + min 32 (suc n)) (a + suc n))
counted_tiles a n =
    let m = min 32 (suc n) in
    let first : a + m - a ≡ m = omega arith in
    let rest : a + suc n - (a + m) ≡ suc n - m = omega arith in
    rw (first, rest) (first_tile a n)

tiles_next : (a e : ℕ) → a < e → tiles (stretch a e) ≡ stretch a (tile_end a e) ∷ tiles (stretch (tile_end a e) e)
tiles_next a e h =
    let n = e - suc a in
    let size : e - a ≡ suc n = omega arith in
    let ends : e ≡ a + suc n = omega arith in
    rw size (subst (λ (z : ℕ). tiles (record { from = a; size = suc n }) ≡ stretch a (a + min 32 (suc n)) ∷ tiles (stretch (a + min 32 (suc n)) z)) (sym ends) (counted_tiles a n))

tiles_done : (a e : ℕ) → e ≤ a → tiles (stretch a e) ≡ []
unfolding tiles_of
tiles_done a e h =
    let size : e - a ≡ 0 = omega arith in
    rw size refl

module _ (f : ℕ → ℕ → List Found) where
  -- ---- left points of a tile

  pub point_next : (p le ra re : ℕ) → p < le → of_tile_pair f p le ra re ≡ of_point f p ra re ++ of_tile_pair f (suc p) le ra re
  point_next p le ra re h =
      let size : le - p ≡ suc (le - suc p) = omega arith in
      rw size refl

  pub points_done : (p le ra re : ℕ) → le ≤ p → of_tile_pair f p le ra re ≡ []
  points_done p le ra re h =
      let size : le - p ≡ 0 = omega arith in
      rw size refl

  -- ---- right tiles of a leaf

  pub tile_next : (la le ra rend : ℕ) → ra < rend → of_tile_leaf f la le ra rend ≡ of_tile_pair f la le ra (tile_end ra rend) ++ of_tile_leaf f la le (tile_end ra rend) rend
  unfolding each
  tile_next la le ra rend h = ap (each (λ y. cross f (stretch la le) y)) (tiles_next ra rend h)

  pub tiles_none : (la le ra rend : ℕ) → rend ≤ ra → of_tile_leaf f la le ra rend ≡ []
  unfolding each
  tiles_none la le ra rend h = ap (each (λ y. cross f (stretch la le) y)) (tiles_done ra rend h)

  -- ---- left tiles of a leaf

  pub leaf_next : (la lend rs rend : ℕ) → la < lend → of_leaves f la lend rs rend ≡ of_tile_leaf f la (tile_end la lend) rs rend ++ of_leaves f (tile_end la lend) lend rs rend
  unfolding by_tiles each
  leaf_next la lend rs rend h = ap (each (λ x. each (λ y. cross f x y) (tiles (stretch rs rend)))) (tiles_next la lend h)

  pub leaf_done : (la lend rs rend : ℕ) → lend ≤ la → of_leaves f la lend rs rend ≡ []
  unfolding by_tiles each
  leaf_done la lend rs rend h = ap (each (λ x. each (λ y. cross f x y) (tiles (stretch rs rend)))) (tiles_done la lend h)
