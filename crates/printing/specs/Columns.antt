-- For callers: the three columns that the pairs are stored in give the pairs back. Assumes nothing.
use Rattle.std.specs.Prelude.{◌≡◌, length, take, drop, Float}
use Rattle.std.proofs.Math.Path.{refl, sym, ap, ap₂}
use Rattle.std.proofs.Common.{◌∙◌, le_refl, arith, take_all, take-suc, get_or-take}
use mathlib.Core.List.{List, [], ◌∷◌, ◌++◌, map}
use Prim.Native.Nat.{ℕ, zero, suc, ◌≤◌, ◌<◌}
use Rattle.std.proofs.Math.ListN.{get_or, get_or-map}
use Rattle.std.proofs.Math.Seq.{take-append_seam, take-length}
use Rattle.std.specs.Float.{nan}
use Rattle.written.specs.RadiusWalk.{Found}
use Rattle.written.specs.Answers.{stored}
use Rattle.printing.specs.Rows.{found, rows}

-- what was stored whole stands in front
pub take_stored : {X : Type 0} (l b : List X) → length l ≤ length b → take (length l) (stored l b) ≡ l
unfolding stored
take_stored l b h = rw (take_all (length b) l h) (take-append_seam l (drop (length l) b))

-- what `get_or` answers past the end
nowhere : Found
nowhere = found 0 0 nan

module _ (fs : List Found) (lefts rights : List ℕ) (distances : List Float) (l : take (length fs) lefts ≡ map (λ x. x.left) fs) (r : take (length fs) rights ≡ map (λ x. x.right) fs) (d : take (length fs) distances ≡ map (λ x. x.distance) fs) where
  -- a column's place is the pair's part
  part : {Y : Type 0} (g : Found → Y) (column : List Y) → take (length fs) column ≡ map g fs → (i : ℕ) → i < length fs → get_or column i (g nowhere) ≡ g (get_or fs i nowhere)
  unfolding nowhere
  part {Y} g column e i h = sym (get_or-take (length fs) column i (g nowhere) h) ∙ ap (λ (c : List Y). get_or c i (g nowhere)) e ∙ get_or-map g fs i nowhere

  row : (i : ℕ) → i < length fs → found (get_or lefts i 0) (get_or rights i 0) (get_or distances i nan) ≡ get_or fs i nowhere
  unfolding nowhere
  row i h = ap₂ (λ (a b : ℕ). found a b (get_or distances i nan)) (part (λ x. x.left) lefts l i h) (part (λ x. x.right) rights r i h) ∙ ap (λ (z : Float). found (get_or fs i nowhere).left (get_or fs i nowhere).right z) (part (λ x. x.distance) distances d i h)

  first : (n : ℕ) → n ≤ length fs → rows n lefts rights distances ≡ take n fs
  unfolding rows
  first zero h = refl
  first (suc n) h = ap₂ (λ (z : List Found) (x : Found). z ++ (x ∷ [])) (first n (omega arith)) (row n h) ∙ sym (take-suc fs n nowhere h)

  pub rows_of : rows (length fs) lefts rights distances ≡ fs
  rows_of = first (length fs) (le_refl _) ∙ take-length fs
