-- Document 01, "The job program": decimal numbers, and distance bits as 16 lowercase hex digits. `last_digits b k n`: the last k digits of n in base b, the most significant first. Assumes nothing.
use Rattle.std.specs.Prelude.{List, cond, ℕ, zero, suc, ◌/◌, ltb}
use Rattle.printing.specs.Digits.{last_digits}

-- how many decimal digits n has: one below ten, else one more than a tenth of it; `fuel` is no less than n
unfoldable pub places : (fuel n : ℕ) → ℕ
places zero n = 1
places (suc fuel) n = let more = places fuel (n / 10) in cond (ltb n 10) 1 (suc more)

unfoldable pub decimal : ℕ → List ℕ
unfolding places
decimal n = last_digits 10 (places n n) n

unfoldable pub hexadecimal : ℕ → List ℕ
hexadecimal n = last_digits 16 16 n
