-- Document 01, "The job program": what a job asks for, and what it is refused for before any tree is checked. Definitions alone. Assumes nothing.
use Rattle.std.specs.Prelude.{List, Bool, not, ◌&&◌, ◌||◌, cond, ℕ, zero, suc, length, leb, eqb, Float}
use Rattle.written.specs.Boxes.{Trees}
use Rattle.reading.specs.Little.{byte, number16, number64, float64}
use Rattle.reading.specs.Trees.{tree_end, tree_fits, tree_at}

module _ (s : List ℕ) where
  -- K, mode, radius; the left tree begins at byte 16, the right one where the left one ends
  abbrev pub axes : ℕ
  axes = byte s 5

  abbrev pub mode : ℕ
  mode = byte s 6

  abbrev pub radius : Float
  radius = float64 s 8

  abbrev pub right_at : ℕ
  right_at = tree_end s 16 axes

  abbrev pub trees : Trees
  trees = record { axes = axes; left = tree_at s 16 axes; right = tree_at s right_at axes }

  -- 21: at least 16 bytes, at most 16,384
  abbrev pub size_ok : Bool
  size_ok = leb 16 (length s) && leb (length s) 16384

  -- 22: KDJ
  abbrev pub mark_ok : Bool
  mark_ok = eqb (byte s 0) 75 && eqb (byte s 1) 68 && eqb (byte s 2) 74

  -- 23: version 1
  abbrev pub version_ok : Bool
  version_ok = eqb (number16 s 3) 1

  -- 24: mode at most 4, spare byte zero, in mode 4 no radius bits
  abbrev pub mode_ok : Bool
  mode_ok = leb mode 4 && eqb (byte s 7) 0 && (not (eqb mode 4) || eqb (number64 s 8) 0)

  -- 1: K is 1 to 4
  abbrev pub axes_ok : Bool
  axes_ok = leb 1 axes && leb axes 4

  -- 25: both trees' counts lie in the job, and its length is what they say
  abbrev pub length_ok : Bool
  length_ok = tree_fits s 16 axes && tree_fits s right_at axes && eqb (tree_end s right_at axes) (length s)

-- the rule's number where it is broken, else what the rules after it say
abbrev pub unless : Bool → ℕ → ℕ → ℕ
unless ok number others = cond ok others number

-- the first rule broken by the first 16 bytes, 0 where none is
unfoldable pub header_refusal : List ℕ → ℕ
header_refusal s =
    let at₁ = unless (axes_ok s) 1 0 in
    let at₂₄ = unless (mode_ok s) 24 at₁ in
    let at₂₃ = unless (version_ok s) 23 at₂₄ in
    let at₂₂ = unless (mark_ok s) 22 at₂₃ in
    unless (size_ok s) 21 at₂₂

-- and by the length after them
abbrev pub then_length : ℕ → List ℕ → ℕ
then_length zero s = unless (length_ok s) 25 0
then_length (suc n) s = suc n

unfoldable pub job_refusal : List ℕ → ℕ
unfolding header_refusal
job_refusal s = then_length (header_refusal s) s
