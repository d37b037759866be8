-- Buffers whose first places hold the numbers of a tree that lies in a job. Assumes nothing.
use Rattle.std.specs.Prelude.{◌≡◌, List, ℕ, ◌≤◌, length, take, Float}
use Rattle.tree.specs.Lent.{tree_of}
use Rattle.reading.specs.Lays.{tree_in}
use Rattle.reading.specs.declared.layout.Layout.{Layout}

-- the buffers have room for the tree
pub record Roomy (l : Layout) (starts : List ℕ) (stems : List Float) (items : List ℕ) (coords : List Float) : Type 0 where
  pub starts_room : l.starts.len ≤ length starts
  pub stems_room : l.stems.len ≤ length stems
  pub items_room : l.items.len ≤ length items
  pub coords_room : l.coords.len ≤ length coords

-- and then hold it
abbrev pub Holds : List ℕ → Layout → (starts : List ℕ) (stems : List Float) (items : List ℕ) (coords : List Float) → Type 0
Holds s l starts stems items coords = tree_of (take l.starts.len starts) (take l.stems.len stems) (take l.items.len items) (take l.coords.len coords) ≡ tree_in s l
