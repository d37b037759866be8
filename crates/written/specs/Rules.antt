-- Document 01, "Check, in this order", as a reader would write it with "for all": what it says that a tree keeps a rule, and that a number is the first rule broken.
-- Statements alone; proofs/Checked.antt proves them of the computed check. Assumes nothing.
use Rattle.std.specs.Prelude.{◌≡◌, ◌≢◌, true, false, ℕ, suc, ◌-◌, ◌*◌, ◌^◌, ◌≤◌, ◌<◌, length, get_or, T}
use Rattle.std.specs.Float.{nan, inf}
use Rattle.std.specs.Float.Ieee.{lt}
use Rattle.std.specs.Float.Ieee.Scale.{finite}
use Rattle.written.specs.Places.{In}
use Rattle.written.specs.LentTree.{Tree, leaves, places, start, coord, levels, Cursor, span, near, far, Node, axis, pivot, part}
use Rattle.written.specs.Check.{Rule, rule₁, rule₂, rule₃, rule₄, rule₅, rule₆, rule₇, number_of}

-- 4
pub record StartsKept (t : Tree) : Type 0 where
  pub first_zero : start t 0 ≡ 0
  pub none_falls : (i : ℕ) → i < leaves t → start t i ≤ start t (suc i)
  pub none_large : (i : ℕ) → i < leaves t → start t (suc i) - start t i ≤ 1024
  pub last_n : start t (leaves t) ≡ places t

-- 7, at one node: no point of its left half is above the pivot, none of its right half below it, and under a pivot of +inf the right half holds none
pub record OrderKept (K : ℕ) (t : Tree) (c : Cursor) : Type 0 where
  pub left_half : (p : ℕ) → In p (part t (near c)) → T (lt (pivot t c) (coord t (axis K c) p)) → ⊥
  pub right_half : (p : ℕ) → In p (part t (far c)) → T (lt (coord t (axis K c) p) (pivot t c)) → ⊥
  pub under_top : pivot t c ≡ inf false → (p : ℕ) → In p (part t (far c)) → ⊥

-- the tree keeps the rule
abbrev pub Kept : ℕ → Tree → Rule → Type 0
Kept K t rule₁ = (1 ≤ K) × (K ≤ 4)
Kept K t rule₂ = (1 ≤ length t.starts) × (length t.starts ≤ 4097) × (places t ≤ 65536)
Kept K t rule₃ = (leaves t < 2 → length t.stems ≡ 0) × (2 ≤ leaves t → length t.stems ≡ 2 ^ levels (leaves t)) × (length t.coords ≡ K * places t)
Kept K t rule₄ = StartsKept t
Kept K t rule₅ = (i : ℕ) → i < length t.coords → T (finite (get_or t.coords i nan))
Kept K t rule₆ = (c : Cursor) → Node t c → 0 < c.rest → 0 < span c → (pivot t c ≢ nan) × (pivot t c ≢ inf true)
Kept K t rule₇ = (c : Cursor) → Node t c → 0 < c.rest → OrderKept K t c

-- the number is 0 and the tree keeps all rules, or it is that of a rule that the tree breaks, and it keeps those before
pub data FirstBroken (K : ℕ) (t : Tree) : ℕ → Type 0 where
  none_broken : ((r : Rule) → Kept K t r) → FirstBroken K t 0
  first_broken : (r : Rule) → ((q : Rule) → number_of q < number_of r → Kept K t q) → (Kept K t r → ⊥) → FirstBroken K t (number_of r)
