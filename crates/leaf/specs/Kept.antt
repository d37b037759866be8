-- What the join keeps of a point against a tile, of two tiles, of a tile against a leaf, and of two leaves (document 01: left tiles, within each the right tiles, then left points, then right points). Assumes nothing.
use Rattle.written.specs.Boxes.{Edge}
use Rattle.std.specs.Prelude.{List, ℕ, ◌+◌, ◌-◌, ◌^◌, ◌≤◌, length, Float}
use Rattle.written.specs.Places.{over, cross}
use Rattle.written.specs.Tiles.{tiles, each, by_tiles}
use Rattle.written.specs.RadiusWalk.{Found, keep}
use Rattle.cursor.specs.declared.lent.Trees.{Trees as HeldTrees}
use Rattle.metric.specs.declared.within.Within.{Within}
use Rattle.metric.specs.Edges.{edge_of}
use Rattle.leaf.specs.Lent.{join_of, stretch}

-- of two places
abbrev pub keeps : (K : ℕ) → (radius : Float) → (edge : Edge) → (litems : List ℕ) → (lcoords : List Float) → (ritems : List ℕ) → (rcoords : List Float) → ℕ → ℕ → List Found
keeps K radius edge litems lcoords ritems rcoords = keep (join_of K litems lcoords ritems rcoords) edge radius

-- of two places of two lent trees, within a radius
abbrev pub keeps_in : HeldTrees → Within → ℕ → ℕ → List Found
keeps_in t w = keeps t.k w.radius (edge_of w.edge) t.left.items.now t.left.coords.now t.right.items.now t.right.coords.now

module _ (f : ℕ → ℕ → List Found) where
  -- the left place p, the right places from a up to e
  abbrev pub of_point : ℕ → ℕ → ℕ → List Found
  of_point p a e = over (f p) a (e - a)

  -- left places from la up to le, right places from ra up to re, each a tile
  abbrev pub of_tile_pair : ℕ → ℕ → ℕ → ℕ → List Found
  of_tile_pair la le ra re = cross f (stretch la le) (stretch ra re)

  -- a left tile and the tiles of a right leaf
  abbrev pub of_tile_leaf : ℕ → ℕ → ℕ → ℕ → List Found
  of_tile_leaf la le rs rend = each (λ y. cross f (stretch la le) y) (tiles (stretch rs rend))

  abbrev pub of_leaves : ℕ → ℕ → ℕ → ℕ → List Found
  of_leaves ls lend rs rend = by_tiles f (stretch ls lend) (stretch rs rend)

-- with those found before, they can be counted
abbrev pub Countable : ℕ → List Found → Type 0
Countable found l = found + length l ≤ 2 ^ 63
