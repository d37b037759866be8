-- A tree of a job within the limit has at most 4,096 numbers of four bytes in a part, and 2,048 of eight. Assumes nothing.
use mathlib.Core.List.{List}
use Prim.Native.Nat.{ℕ, ◌≤◌}
use native.Mathlib.Omega.{arith}
use lib.ListN.{length}
use Rattle.reading.specs.Lays.{Lays, Within}
use Rattle.reading.specs.Laws.{within}
use Rattle.reading.specs.declared.layout.Layout.{Layout}

pub record Small (l : Layout) : Type 0 where
  pub starts_few : l.starts.len ≤ 4096
  pub stems_few : l.stems.len ≤ 2048
  pub items_few : l.items.len ≤ 4096
  pub coords_few : l.coords.len ≤ 2048

pub small : {K : ℕ} {s : List ℕ} {at : ℕ} {l : Layout} → length s ≤ 16384 → Lays K s at l → Small l
small {K} {s} {at} {l} h lays =
    let w : Within (length s) l = within lays in
    record { starts_few = omega (arith, w); stems_few = omega (arith, w); items_few = omega (arith, w); coords_few = omega (arith, w) }
