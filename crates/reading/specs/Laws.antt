-- What a layout says: its tree is the tree at that place, and all its parts lie within the job. Assumes nothing.
use Rattle.std.specs.Prelude.{◌≡◌, List, Bool, true, false, ◌&&◌, ℕ, ◌≤◌, length, leb}
use Rattle.std.proofs.lemmas.Bool.{false≢true}
use Rattle.std.proofs.Common.{arith, leb-true}
use Rattle.reading.specs.Trees.{starts_at, tree_end, tree_at, tree_fits}
use Rattle.reading.specs.Lays.{Lays, Within, tree_in}
use Rattle.reading.specs.declared.layout.Layout.{Layout}

second : (a b : Bool) → (a && b) ≡ true → b ≡ true
second true b e = e
second false b e = absurd (false≢true e)

-- a tree that fits ends within the job
pub ends : (K : ℕ) (s : List ℕ) (at : ℕ) → tree_fits s at K ≡ true → tree_end s at K ≤ length s
ends K s at e = leb-true _ _ (second (leb (starts_at s at) (length s)) (leb (tree_end s at K) (length s)) e)

module _ {K : ℕ} {s : List ℕ} {at : ℕ} {l : Layout} where
  pub tree_in_lem : Lays K s at l → tree_in s l ≡ tree_at s at K
  tree_in_lem h =
      rw (h.starts_lie, h.starts_number, h.stems_lie, h.stems_number, h.items_lie, h.items_number, h.coords_lie, h.coords_number)

  pub within : Lays K s at l → Within (length s) l
  within h =
      let end = ends K s at h.fits in
      record { starts = omega arith; stems = omega arith; items = omega arith; coords = omega arith }

  pub end_within : Lays K s at l → l.end ≤ length s
  end_within h = omega (arith, ends K s at h.fits)
