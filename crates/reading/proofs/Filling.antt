-- A list filled from the front with what lies in a row: the first i are filled, then the first i + 1. Assumes nothing.
use Rattle.std.proofs.Common.{◌≡◌, refl, List, [], ◌∷◌, ◌++◌, ℕ, zero, suc, ◌+◌, ◌*◌, ◌<◌, length, take, arith, add-one}
use Rattle.std.proofs.Math.Nat.{mul-suc}
use Rattle.std.proofs.Math.ListN.{set}
use Rattle.std.proofs.Math.Seq.{take-suc-set}
use Rattle.reading.specs.Little.{in_a_row}

module _ {A : Type 0} (w : ℕ) (value : ℕ → A) where
  -- a row ends with what lies last
  last : (at n : ℕ) → in_a_row w value at (suc n) ≡ in_a_row w value at n ++ (value (at + w * n) ∷ [])
  unfolding in_a_row
  last at zero = let place : at + w * 0 ≡ at = omega arith in rw place refl
  last at (suc n) =
      let place : at + w + w * n ≡ at + w * suc n = omega (arith, mul-suc w n) in
      rw (last (at + w) n, place) refl

  pub one_more : (at : ℕ) (l : List A) (i : ℕ) (v : A)
      → i < length l
      → take i l ≡ in_a_row w value at i
      → v ≡ value (at + w * i)
      → take (i + 1) (set l i v) ≡ in_a_row w value at (i + 1)
  one_more at l i v inside first here = rw (add-one i, take-suc-set l i v inside, first, here, last at i)
