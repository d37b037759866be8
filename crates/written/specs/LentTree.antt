-- Document 01, "A lent tree": four buffers, leaf count, levels and stems, and the cursor that stands on a node.
-- Definitions alone. Assumes nothing.
use Rattle.std.specs.Prelude.{List, Bool, cond, ℕ, zero, suc, ◌+◌, ◌-◌, ◌*◌, ◌%◌, ◌^◌, ◌<◌, min, length, get_or, leb, ltb, eqb, Float}
use Rattle.std.specs.Float.{nan}
use Rattle.written.specs.Places.{Part}

pub record Tree : Type 0 where
  pub starts : List ℕ
  pub stems : List Float
  pub items : List ℕ
  pub coords : List Float

-- leaf count m is one less than the number of starts
abbrev pub leaves : Tree → ℕ
leaves t = length t.starts - 1

-- n, the number of items: the places of the tree are 0 to n - 1
abbrev pub places : Tree → ℕ
places t = length t.items

-- leaf i holds places from start i up to start i+1
abbrev pub start : Tree → ℕ → ℕ
start t i = get_or t.starts i 0

abbrev pub item : Tree → ℕ → ℕ
item t p = get_or t.items p 0

-- axis by axis: axis d of point p at d*n + p
abbrev pub coord : Tree → ℕ → ℕ → Float
coord t d p = get_or t.coords (d * places t + p) nan

-- the first exponent from r on, and at most k further, whose power of two is not below m
unfoldable pub first_from : ℕ → ℕ → ℕ → ℕ
first_from zero r m = r
first_from (suc k) r m = let next = first_from k (suc r) m in cond (leb m (2 ^ r)) r next

-- levels: the exponent of the next power of two from m, which is 0 if m < 2
unfoldable pub levels : ℕ → ℕ
unfolding first_from
levels m = first_from m 0 m

-- stems: none if m < 2, else that power of two
abbrev pub stem_count : ℕ → ℕ
stem_count m = cond (ltb m 2) 0 (2 ^ levels m)

-- ---- nodes

-- A node: its stem place, its leaves from `first` up to `end`, its level, and the levels left below it.
pub record Cursor : Type 0 where
  pub stem : ℕ
  pub first : ℕ
  pub end : ℕ
  pub level : ℕ
  pub rest : ℕ

-- node 1 is the root
abbrev pub root : Tree → Cursor
root t = record { stem = 1; first = 0; end = leaves t; level = 0; rest = levels (leaves t) }

-- how many leaves it spans
abbrev pub span : Cursor → ℕ
span c = c.end - c.first

-- a leaf has no levels left, however many leaves it spans
abbrev pub is_leaf : Cursor → Bool
is_leaf c = eqb c.rest 0

-- a node with r levels left over leaves from f splits at f + 2^(r-1), clipped
abbrev pub middle : Cursor → ℕ
middle c = min (c.first + 2 ^ (c.rest - 1)) c.end

-- node s has children 2s and 2s+1
abbrev pub near : Cursor → Cursor
near c = record { stem = 2 * c.stem; first = c.first; end = middle c; level = suc c.level; rest = c.rest - 1 }

abbrev pub far : Cursor → Cursor
far c = record { stem = 2 * c.stem + 1; first = middle c; end = c.end; level = suc c.level; rest = c.rest - 1 }

-- the nodes of a tree: the root, and both children of a node with a level left
pub data Node (t : Tree) : Cursor → Type 0 where
  the_root : Node t (root t)
  near_of : {c : Cursor} → Node t c → 0 < c.rest → Node t (near c)
  far_of : {c : Cursor} → Node t c → 0 < c.rest → Node t (far c)

-- axis is level mod K
abbrev pub axis : ℕ → Cursor → ℕ
axis K c = c.level % K

abbrev pub pivot : Tree → Cursor → Float
pivot t c = get_or t.stems c.stem nan

-- the places under a node
abbrev pub part : Tree → Cursor → Part
part t c = record { from = start t c.first; size = start t c.end - start t c.first }
