-- Document 01, "The job program": each tree is leaf count u32, point count u32, starts, stems, items, coordinates. Assumes nothing.
use Rattle.std.specs.Prelude.{List, Bool, ◌&&◌, ℕ, suc, ◌+◌, ◌*◌, length, leb}
use Rattle.written.specs.LentTree.{Tree, stem_count}
use Rattle.reading.specs.Little.{number32, numbers, floats}

module _ (s : List ℕ) (at : ℕ) where
  abbrev pub leaf_count : ℕ
  leaf_count = number32 s at

  abbrev pub point_count : ℕ
  point_count = number32 s (at + 4)

  -- one start more than leaves; the stems and the coordinates that rule 3 asks for
  abbrev pub starts_at : ℕ
  starts_at = at + 8

  abbrev pub stems_at : ℕ
  stems_at = starts_at + 4 * suc leaf_count

  abbrev pub items_at : ℕ
  items_at = stems_at + 8 * stem_count leaf_count

  abbrev pub coords_at : ℕ
  coords_at = items_at + 4 * point_count

  abbrev pub tree_end : (K : ℕ) → ℕ
  tree_end K = coords_at + 8 * (K * point_count)

  -- the counts, and what they say, lie within the job
  abbrev pub tree_fits : (K : ℕ) → Bool
  tree_fits K = leb starts_at (length s) && leb (tree_end K) (length s)

  -- the tree from a place on
  abbrev pub tree_at : (K : ℕ) → Tree
  tree_at K = record { starts = numbers s starts_at (suc leaf_count); stems = floats s stems_at (stem_count leaf_count); items = numbers s items_at point_count; coords = floats s coords_at (K * point_count) }
