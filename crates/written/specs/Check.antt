-- Document 01, "Check, in this order", rules 1 to 7: a test for each rule, and the number of the first one that a tree breaks.
-- Definitions alone; specs/Rules.antt says each rule as a sentence, and proofs/Checked.antt that the test means it. Assumes nothing.
use Rattle.std.specs.Prelude.{Bool, true, false, not, ◌&&◌, ◌||◌, cond, ℕ, zero, suc, ◌-◌, ◌*◌, length, get_or, leb, eqb, Float}
use Rattle.std.specs.Float.{nan, inf, fin}
use Rattle.std.specs.Float.Ieee.{lt}
use Rattle.std.specs.Float.Ieee.Scale.{finite}
use Rattle.written.specs.Places.{Part}
use Rattle.written.specs.LentTree.{Tree, leaves, places, start, coord, stem_count, Cursor, root, span, near, far, axis, pivot, part}

-- the test passes at n places from a on
unfoldable pub every : (ℕ → Bool) → ℕ → ℕ → Bool
every test a zero = true
every test a (suc n) = test a && every test (suc a) n

abbrev pub every_in : (ℕ → Bool) → Part → Bool
every_in test w = every test w.from w.size

-- a test of a node and of the nodes below it, down to the last level
unfoldable pub down : (Cursor → Bool) → ℕ → Cursor → Bool
down test zero c = true
down test (suc r) c = test c && down test r (near c) && down test r (far c)

-- is NaN or -inf; is +inf
abbrev pub no_pivot : Float → Bool
no_pivot nan = true
no_pivot (inf s) = s
no_pivot (fin s m e) = false

abbrev pub is_top : Float → Bool
is_top nan = false
is_top (inf s) = not s
is_top (fin s m e) = false

module _ (K : ℕ) (t : Tree) where
  -- 1: K is 1 to 4
  abbrev pub axes_ok : Bool
  axes_ok = leb 1 K && leb K 4

  -- 2: some starts, at most 4,097 starts and 65,536 items
  abbrev pub sizes_ok : Bool
  sizes_ok = leb 1 (length t.starts) && leb (length t.starts) 4097 && leb (places t) 65536

  -- 3: stem and coordinate buffer of the right length
  abbrev pub lengths_ok : Bool
  lengths_ok = eqb (length t.stems) (stem_count (leaves t)) && eqb (length t.coords) (K * places t)

  -- 4: first start 0, no start falls, no leaf over 1,024, last start n
  abbrev pub leaf_ok : ℕ → Bool
  leaf_ok i = leb (start t i) (start t (suc i)) && leb (start t (suc i) - start t i) 1024

  abbrev pub starts_ok : Bool
  starts_ok = eqb (start t 0) 0 && every leaf_ok 0 (leaves t) && eqb (start t (leaves t)) (places t)

  -- 5: each coordinate is finite
  abbrev pub coords_ok : Bool
  coords_ok = every (λ i. finite (get_or t.coords i nan)) 0 (length t.coords)

  -- 6: a node over at least one leaf has a pivot that is neither NaN nor -inf
  abbrev pub pivot_ok : Cursor → Bool
  pivot_ok c = eqb (span c) 0 || not (no_pivot (pivot t c))

  abbrev pub pivots_ok : Bool
  pivots_ok = down pivot_ok (root t).rest (root t)

  -- 7: no point of a node's left half is above the pivot, none of its right half below it, and a pivot of +inf has no point in the right half
  abbrev pub left_ok : Cursor → Bool
  left_ok c = every_in (λ p. not (lt (pivot t c) (coord t (axis K c) p))) (part t (near c))

  abbrev pub right_ok : Cursor → Bool
  right_ok c = every_in (λ p. not (lt (coord t (axis K c) p) (pivot t c))) (part t (far c))

  abbrev pub top_ok : Cursor → Bool
  top_ok c = not (is_top (pivot t c)) || eqb (part t (far c)).size 0

  abbrev pub order_ok : Bool
  order_ok = down (λ c. left_ok c && right_ok c && top_ok c) (root t).rest (root t)

-- the rules of the table
pub data Rule : Type 0 where
  rule₁ rule₂ rule₃ rule₄ rule₅ rule₆ rule₇ : Rule

abbrev pub number_of : Rule → ℕ
number_of rule₁ = 1
number_of rule₂ = 2
number_of rule₃ = 3
number_of rule₄ = 4
number_of rule₅ = 5
number_of rule₆ = 6
number_of rule₇ = 7

abbrev pub keeps : ℕ → Tree → Rule → Bool
keeps K t rule₁ = axes_ok K t
keeps K t rule₂ = sizes_ok K t
keeps K t rule₃ = lengths_ok K t
keeps K t rule₄ = starts_ok K t
keeps K t rule₅ = coords_ok K t
keeps K t rule₆ = pivots_ok K t
keeps K t rule₇ = order_ok K t

-- the rule's number where the tree breaks it, else what the rules after it say
abbrev pub refused_at : ℕ → Tree → Rule → ℕ → ℕ
refused_at K t r others = cond (keeps K t r) others (number_of r)

-- the number of the first rule broken, 0 where none is: the lowest number wins
unfoldable pub refusal : ℕ → Tree → ℕ
refusal K t =
    let at₇ = refused_at K t rule₇ 0 in
    let at₆ = refused_at K t rule₆ at₇ in
    let at₅ = refused_at K t rule₅ at₆ in
    let at₄ = refused_at K t rule₄ at₅ in
    let at₃ = refused_at K t rule₃ at₄ in
    let at₂ = refused_at K t rule₂ at₃ in
    refused_at K t rule₁ at₂
