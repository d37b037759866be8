-- The row of sums as it grows place by place and axis by axis. Assumes nothing.
use mathlib.Core.Path.{◌≡◌, refl, sym, ap, ◌∙◌, subst}
use mathlib.Core.List.{List}
use mathlib.Core.Logic.{inl, inr}
use Prim.Native.Nat.{ℕ, suc, ◌+◌, ◌-◌, ◌*◌, ◌≤◌, ◌<◌}
use native.Mathlib.Nat.{eq-or-lt_of_le, le_of_suc-le-suc, mul-le-mul_right, suc-mul, zero-mul, zero-add}
use native.Mathlib.Omega.{arith}
use lib.ListN.{length, set, get_or, take, drop}
use lib.Seq.{get_or-set_same, get_or-set_other}
use lib.Ieee.{Float, nan}
use Rattle.rounding.specs.Distance.{zero₊, distance}
use Rattle.cursor.specs.Held.{Column}
use Rattle.cursor.specs.Tiles.{tile-read}
use Rattle.leaf.specs.Sums.{Holds, grown, sum_to, reached, TileOf}

-- ---- one place more, stored at the next place
module _ (sums : List Float) (j : ℕ) (v : Float) where
  pub place_next : (f : ℕ → Float) → j < length sums → Holds sums j f → v ≡ f j → Holds (set sums j v) (suc j) f
  place_next f inside h e i l = elim (eq-or-lt_of_le (le_of_suc-le-suc l)) [
    | inl same ↦ subst (λ (x : ℕ). get_or (set sums j v) x nan ≡ f x) (sym same) (get_or-set_same sums j v nan inside ∙ e)
    | inr less ↦ get_or-set_other sums j i v nan (λ (x : i ≡ j). omega arith) ∙ h i less
  ]

  -- and the places after it are as before
  pub place_after : (old : List Float) → ((i : ℕ) → j ≤ i → get_or sums i nan ≡ get_or old i nan) → (i : ℕ) → suc j ≤ i → get_or (set sums j v) i nan ≡ get_or old i nan
  place_after old h i l = get_or-set_other sums j i v nan (λ (x : i ≡ j). omega arith) ∙ h i (omega arith)

-- ---- a column of a tile

pub tile_column : {K : ℕ} {coords : List Float} {n a e : ℕ} → K ≤ 4 → TileOf K coords n a e → (d : ℕ) → d < K → Column coords n d a e
tile_column {K} {coords} {n} {a} {e} few t d l =
    let row : suc d * n ≤ K * n = mul-le-mul_right n l in
    let next : suc d * n ≡ d * n + n = suc-mul d n in
    record {
      axis_few = omega arith;
      points_few = t.small;
      whole = omega (arith, row, next, t.whole);
      rising = t.rising;
      inside = t.inside;
      tiled = t.narrow;
    }

-- ---- the sums of one axis more
module _ (pcoords : List Float) (pn p : ℕ) (coords : List Float) (n a : ℕ) where
  pub sum_none : (j : ℕ) → sum_to pcoords pn p coords n a 0 j ≡ zero₊
  unfolding distance
  sum_none j = refl

  pub sum_next : (d j : ℕ) → sum_to pcoords pn p coords n a (suc d) j ≡ grown (sum_to pcoords pn p coords n a d j) (get_or pcoords (d * pn + p) nan) (get_or coords (d * n + (a + j)) nan)
  unfolding distance
  sum_next d j = refl

  -- what the code adds at the axis d: a number of the lent column
  pub sum_tile : (d m j : ℕ) → j < m
      → grown (sum_to pcoords pn p coords n a d j) (get_or pcoords (d * pn + p) nan) (get_or (take m (drop (d * n + a) coords)) j nan) ≡ sum_to pcoords pn p coords n a (suc d) j
  sum_tile d m j l =
      let place : d * n + a + j ≡ d * n + (a + j) = omega arith in
      ap (λ (x : Float). grown (sum_to pcoords pn p coords n a d j) (get_or pcoords (d * pn + p) nan) x)
      (tile-read nan coords (d * n + a) m j l ∙ ap (λ (i : ℕ). get_or coords i nan) place)
      ∙ sym (sum_next d j)

  -- one axis more, from what the code ensures of the row after it
  pub axis_next : (d m : ℕ) (old : ℕ → Float) (q : Float) (row column : List Float)
      → ((j : ℕ) → j < m → old j ≡ sum_to pcoords pn p coords n a d j)
      → q ≡ get_or pcoords (d * pn + p) nan
      → column ≡ take m (drop (d * n + a) coords)
      → length column ≡ m
      → Holds row (length column) (λ j. grown (old j) q (get_or column j nan))
      → Holds row m (sum_to pcoords pn p coords n a (suc d))
  axis_next d m old q row column so_far here lent many new j l =
      let before : old j ≡ sum_to pcoords pn p coords n a d j = so_far j l in
      new j (omega arith) ∙ rw (before, here, lent) (sum_tile d m j l)

  pub first_axis : (m : ℕ) (row column : List Float)
      → column ≡ take m (drop (0 * n + a) coords)
      → length column ≡ m
      → Holds row (length column) (λ j. grown zero₊ (get_or pcoords p nan) (get_or column j nan))
      → Holds row m (sum_to pcoords pn p coords n a 1)
  first_axis m row column lent many new =
      let here : get_or pcoords p nan ≡ get_or pcoords (0 * pn + p) nan = rw (zero-mul, zero-add) in
      axis_next 0 m (λ j. zero₊) (get_or pcoords p nan) row column (λ j l. sym (sum_none j)) here lent many new

  -- the last axis, which the loops add themselves: the distances are whole
  pub last_axis : (K m : ℕ) (sums column : List Float)
      → 0 < K
      → Holds sums m (sum_to pcoords pn p coords n a (K - 1))
      → column ≡ take m (drop ((K - 1) * n + a) coords)
      → (j : ℕ) → j < m → reached sums (get_or pcoords ((K - 1) * pn + p) nan) column j ≡ sum_to pcoords pn p coords n a K j
  last_axis K m sums column some so_far lent j l =
      let before : get_or sums j nan ≡ sum_to pcoords pn p coords n a (K - 1) j = so_far j l in
      let all : suc (K - 1) ≡ K = omega arith in
      rw (before, lent) (sum_tile (K - 1) m j l ∙ ap (λ (d : ℕ). sum_to pcoords pn p coords n a d j) all)
