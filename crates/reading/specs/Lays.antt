-- The layout of a tree as the code holds it. Assumes nothing.
use Rattle.std.specs.Prelude.{◌≡◌, List, true, ℕ, suc, ◌+◌, ◌*◌, ◌≤◌}
use Rattle.written.specs.LentTree.{Tree, stem_count}
use Rattle.reading.specs.Little.{numbers, floats}
use Rattle.reading.specs.Trees.{leaf_count, point_count, starts_at, stems_at, items_at, coords_at, tree_end, tree_fits}
use Rattle.reading.specs.declared.layout.Layout.{Layout}

pub record Lays (K : ℕ) (s : List ℕ) (at : ℕ) (l : Layout) : Type 0 where
  pub starts_lie : l.starts.at ≡ starts_at s at
  pub stems_lie : l.stems.at ≡ stems_at s at
  pub items_lie : l.items.at ≡ items_at s at
  pub coords_lie : l.coords.at ≡ coords_at s at
  pub end_lies : l.end ≡ tree_end s at K
  pub starts_number : l.starts.len ≡ suc (leaf_count s at)
  pub stems_number : l.stems.len ≡ stem_count (leaf_count s at)
  pub items_number : l.items.len ≡ point_count s at
  pub coords_number : l.coords.len ≡ K * point_count s at
  pub fits : tree_fits s at K ≡ true

-- the parts follow each other within n bytes, 4 or 8 bytes to a number
pub record Within (n : ℕ) (l : Layout) : Type 0 where
  pub starts : l.starts.at + 4 * l.starts.len ≤ n
  pub stems : l.stems.at + 8 * l.stems.len ≤ n
  pub items : l.items.at + 4 * l.items.len ≤ n
  pub coords : l.coords.at + 8 * l.coords.len ≤ n

-- the tree that a layout finds in a job
abbrev pub tree_in : List ℕ → Layout → Tree
tree_in s l = record { starts = numbers s l.starts.at l.starts.len; stems = floats s l.stems.at l.stems.len; items = numbers s l.items.at l.items.len; coords = floats s l.coords.at l.coords.len }
