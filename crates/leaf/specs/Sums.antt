-- The squared distances of one point to the points of a tile, as they grow axis by axis in a row of 32 sums. Assumes nothing.
use Rattle.std.specs.Prelude.{◌≡◌, List, Bool, cond, ℕ, zero, suc, ◌+◌, ◌*◌, ◌≤◌, ◌<◌, length, get_or, Float}
use Rattle.std.specs.Float.{nan, binary64}
use Rattle.std.specs.Float.Ieee.{add}
use Rattle.rounding.specs.Distance.{zero₊, dist1, distance}
use Rattle.written.specs.Boxes.{Edge, passes}
use Rattle.cursor.specs.declared.lent.Places.{Places}
use Rattle.cursor.specs.declared.lent.Tree.{Tree as HeldTree}
use Rattle.metric.specs.Lent.{HoldsPlace, point_at}

-- the first n numbers of the row are f 0, f 1, ..
abbrev pub Holds : List Float → ℕ → (ℕ → Float) → Type 0
Holds row n f = (j : ℕ) → j < n → get_or row j nan ≡ f j

-- a sum with one axis more: the point's coordinate is q, the other's x
abbrev pub grown : Float → Float → Float → Float
grown sum q x = add binary64 sum (dist1 binary64 q x)

-- over the first k axes: the place p of one tree, and the j-th place from a on of the other
abbrev pub sum_to : (pcoords : List Float) → (pn p : ℕ) → (coords : List Float) → (n a : ℕ) → (k j : ℕ) → Float
sum_to pcoords pn p coords n a k j = distance binary64 (point_at pcoords pn p) (point_at coords n (a + j)) k

-- with one axis there are no sums to begin with: they are 0, and stay so
abbrev pub Fresh : ℕ → List Float → Type 0
Fresh K sums = (K ≡ 1 → Holds sums 32 (λ j. zero₊))

-- the places of a tile, from a up to e
pub record TileOf (K : ℕ) (coords : List Float) (n a e : ℕ) : Type 0 where
  pub whole : length coords ≡ K * n
  pub small : n ≤ 65536
  pub rising : a ≤ e
  pub inside : e ≤ n
  pub narrow : e ≤ a + 32

-- a point, a tile, and sums to work in
pub record PointTile (K : ℕ) (sums pcoords : List Float) (pn p : ℕ) (coords : List Float) (n a e : ℕ) : Type 0 where
  pub some_axes : 0 < K
  pub few_axes : K ≤ 4
  pub point : HoldsPlace K pcoords pn p
  pub point_small : pn ≤ 65536
  pub tile : TileOf K coords n a e
  pub fresh : Fresh K sums

-- of a lent tree's point, and a tile of another
abbrev pub PointTileIn : (K : ℕ) → (sums : List Float) → (one : HeldTree) → (p : ℕ) → (many : HeldTree) → (tile : Places) → Type 0
PointTileIn K sums one p many tile = PointTile K sums one.coords.now (length one.items.now) p many.coords.now (length many.items.now) tile.from tile.to

-- ---- which of them pass

abbrev pub row : List Float → ℕ → Float
row l j = get_or l j nan

-- the distances, once the last axis is added
abbrev pub reached : (sums : List Float) → (q : Float) → (column : List Float) → ℕ → Float
reached sums q column j = grown (get_or sums j nan) q (get_or column j nan)

-- the j-th distance passes
abbrev pub passing : Edge → (radius : Float) → (distances : ℕ → Float) → ℕ → Bool
passing edge radius distances j = passes edge radius (distances j)

-- how many of the first n pass a test
unfoldable pub hits : (ℕ → Bool) → ℕ → ℕ
hits test zero = 0
hits test (suc n) = hits test n + cond (test n) 1 0
