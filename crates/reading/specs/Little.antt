-- Document 01, "The job program": little-endian numbers at a place of a list of bytes. A byte beyond the end counts as 0. Assumes nothing.
use Rattle.std.specs.Prelude.{List, [], ◌∷◌, ℕ, zero, suc, ◌+◌, ◌*◌, get_or, Float}
use Rattle.std.specs.Float.Ieee.{of_bits}
use Rattle.std.specs.Float.{binary64}

-- a byte, at a place of a job
abbrev pub byte : List ℕ → ℕ → ℕ
byte s at = get_or s at 0

unfoldable pub number16 : List ℕ → ℕ → ℕ
number16 s at = byte s at + 256 * byte s (at + 1)

unfoldable pub number32 : List ℕ → ℕ → ℕ
number32 s at = byte s at + 256 * byte s (at + 1) + 65536 * byte s (at + 2) + 16777216 * byte s (at + 3)

unfoldable pub number64 : List ℕ → ℕ → ℕ
number64 s at = number32 s at + 4294967296 * number32 s (at + 4)

-- binary64 by its bits; a NaN of any payload is the one NaN there is
abbrev pub float_of : ℕ → Float
float_of bits = of_bits binary64 bits

abbrev pub float64 : List ℕ → ℕ → Float
float64 s at = float_of (number64 s at)

-- n of them, one after the other, each of w bytes
unfoldable pub in_a_row : {A : Type 0} → (w : ℕ) → (value : ℕ → A) → (at n : ℕ) → List A
in_a_row w value at zero = []
in_a_row w value at (suc n) = value at ∷ in_a_row w value (at + w) n

abbrev pub numbers : List ℕ → (at n : ℕ) → List ℕ
numbers s = in_a_row 4 (number32 s)

abbrev pub floats : List ℕ → (at n : ℕ) → List Float
floats s = in_a_row 8 (float64 s)
