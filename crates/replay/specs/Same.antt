-- Rooms that hold the recorded pairs, and beyond them what they were filled with. Assumes nothing.
use Rattle.std.specs.Prelude.{◌≡◌, List, ℕ, ◌+◌, ◌*◌, ◌≤◌, ◌<◌, get_or, Float}
use Rattle.std.specs.Float.{nan, binary64}
use Rattle.std.specs.Float.Ieee.{to_bits}
use Rattle.reading.specs.Little.{number32, number64}

abbrev pub Bits : Float → ℕ → Type 0
Bits x b = to_bits binary64 x ≡ b

-- the pair recorded at a place of s: left item, right item, distance bits
abbrev pub PairAt : List ℕ → (at left right : ℕ) → Float → Type 0
PairAt s at left right distance = (left ≡ number32 s at) × (right ≡ number32 s (at + 4)) × Bits distance (number64 s (at + 8))

-- the first n places hold the pairs recorded in s, 16 bytes each
abbrev pub Stored : List ℕ → (n : ℕ) → (l r : List ℕ) → List Float → Type 0
Stored s n l r d = (i : ℕ) → i < n → PairAt s (16 * i) (get_or l i 0) (get_or r i 0) (get_or d i nan)

-- a place that nothing was stored in
abbrev pub Empty : (left right : ℕ) → Float → Type 0
Empty left right distance = (left ≡ 0xe4e4_e4e4) × (right ≡ 0xe4e4_e4e4) × Bits distance 0xc0c8_1c80_0000_0000

abbrev pub Untouched : (n : ℕ) → (l r : List ℕ) → List Float → Type 0
Untouched n l r d = (i : ℕ) → n ≤ i → i < 1025 → Empty (get_or l i 0) (get_or r i 0) (get_or d i nan)
