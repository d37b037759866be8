-- Two leaves as the code is lent them: items and coordinates of both trees, and the places of each leaf. Starts and stems play no part. Assumes nothing.
use Rattle.std.specs.Prelude.{◌≡◌, List, [], ℕ, ◌+◌, ◌-◌, ◌*◌, ◌≤◌, ◌<◌, length, Float}
use Rattle.written.specs.Places.{Part}
use Rattle.written.specs.LentTree.{Tree}
use Rattle.written.specs.Boxes.{Trees}
use Rattle.cursor.specs.declared.lent.Places.{Places}
use Rattle.cursor.specs.declared.lent.Trees.{Trees as HeldTrees}

-- the points of a tree, without its leaves
abbrev pub points : List ℕ → List Float → Tree
points items coords = record { starts = []; stems = []; items = items; coords = coords }

abbrev pub join_of : (K : ℕ) → (litems : List ℕ) → (lcoords : List Float) → (ritems : List ℕ) → (rcoords : List Float) → Trees
join_of K litems lcoords ritems rcoords = record { axes = K; left = points litems lcoords; right = points ritems rcoords }

-- the places from `from` up to `to`
abbrev pub stretch : ℕ → ℕ → Part
stretch from to = record { from = from; size = to - from }

-- the places from `from` up to `to` are places of a tree of at most 65,536 points over K axes
pub record Stretch (K : ℕ) (items : List ℕ) (coords : List Float) (from to : ℕ) : Type 0 where
  pub rising : from ≤ to
  pub inside : to ≤ length items
  pub few : length items ≤ 65536
  pub whole : length coords ≡ K * length items

pub record LeafPair (K : ℕ) (litems : List ℕ) (lcoords : List Float) (ls lend : ℕ) (ritems : List ℕ) (rcoords : List Float) (rs rend : ℕ) : Type 0 where
  pub some_axes : 0 < K
  pub few_axes : K ≤ 4
  pub left : Stretch K litems lcoords ls lend
  pub right : Stretch K ritems rcoords rs rend

-- the right places are those of one tile
pub record TilePair (K : ℕ) (litems : List ℕ) (lcoords : List Float) (la le : ℕ) (ritems : List ℕ) (rcoords : List Float) (ra re : ℕ) : Type 0 where
  pub pair : LeafPair K litems lcoords la le ritems rcoords ra re
  pub narrow : re ≤ ra + 32

-- ---- of two lent trees

abbrev pub points_in : HeldTrees → Trees
points_in t = join_of t.k t.left.items.now t.left.coords.now t.right.items.now t.right.coords.now

abbrev pub LeafPairIn : HeldTrees → (left right : Places) → Type 0
LeafPairIn t l r = LeafPair t.k t.left.items.now t.left.coords.now l.from l.to t.right.items.now t.right.coords.now r.from r.to

-- the right places are those of one tile
abbrev pub TilePairIn : HeldTrees → (left right : Places) → Type 0
TilePairIn t l r = TilePair t.k t.left.items.now t.left.coords.now l.from l.to t.right.items.now t.right.coords.now r.from r.to

-- the left places are
abbrev pub LeftTilePairIn : HeldTrees → (left right : Places) → Type 0
LeftTilePairIn t l r = TilePair t.k t.right.items.now t.right.coords.now r.from r.to t.left.items.now t.left.coords.now l.from l.to
