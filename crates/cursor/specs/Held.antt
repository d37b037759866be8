-- Nodes, sides and tiles of document 01 as the code holds them, and what the code asks of them. Assumes nothing.
use Rattle.std.specs.Prelude.{List, ℕ, zero, suc, ◌+◌, ◌*◌, ◌≤◌, ◌<◌, length, Float}
use Rattle.written.specs.LentTree.{Cursor, levels}
use Rattle.written.specs.NodePairs.{Side, left_side, right_side}
use Rattle.cursor.specs.declared.node.Cursor.{Cursor as Held}
use Rattle.cursor.specs.declared.lent.Side.{Side as HeldSide}
use Rattle.cursor.specs.declared.lent.Side.TheVariants.{Left, Right}

-- the node that a cursor stands on
abbrev pub node_of : Held → Cursor
node_of c = record { stem = c.stem.0; first = c.first.0; end = c.end.0; level = c.level; rest = c.remaining }

-- node 1 over m leaves: the root of each tree of m leaves
abbrev pub root_over : ℕ → Cursor
root_over m = record { stem = 1; first = 0; end = m; level = 0; rest = levels m }

-- a node that splits: it has a level left, and its numbers are those of an accepted tree
pub record Splits (c : Cursor) : Type 0 where
  pub some : 0 < c.rest
  pub few : c.rest ≤ 12
  pub shallow : c.level ≤ 12
  pub stem_small : c.stem < 4096
  pub first_small : c.first ≤ 4096

-- a side
abbrev pub side_of : HeldSide → Side
side_of Left = left_side
side_of Right = right_side

-- by its number: 0 the left one, any other the right one
abbrev pub side_at : ℕ → Side
side_at zero = left_side
side_at (suc n) = right_side

-- axis d of n points holds the places of a tile
pub record Column (coords : List Float) (n d start end : ℕ) : Type 0 where
  pub axis_few : d < 4
  pub points_few : n ≤ 65536
  pub whole : d * n + n ≤ length coords
  pub rising : start ≤ end
  pub inside : end ≤ n
  pub tiled : end ≤ start + 32
