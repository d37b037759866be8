-- Reading a printed number gives the number back, and the bits of a distance give the distance. Assumes nothing.
use Rattle.std.specs.Prelude.{◌≡◌, refl, List, [], ◌∷◌, ◌++◌, Bool, true, false, cond, ℕ, zero, suc, ◌+◌, ◌-◌, ◌*◌, ◌/◌, ◌%◌, ◌^◌, ◌≤◌, ◌<◌, T, ltb, Float}
use Rattle.std.proofs.Common.{ap, ap₂, subst, ◌∙◌, pow-suc, div-add-mod', div-lt_iff_lt-mul, arith, ltb-true, ltb-false, lt-ltb, le-ltb}
use Rattle.std.proofs.Math.Nat.{pow-zero}
use Rattle.std.specs.Float.{binary64}
use Rattle.std.specs.Float.Ieee.{fits, of_bits, to_bits}
use Rattle.std.specs.Float.Ieee.Bits.{of_bits-to_bits, to_bits-lt}
use Rattle.printing.specs.Digits.{hex_digit_ascii, last_digits}
use Rattle.printing.specs.Numerals.{decimal, hexadecimal}
use Rattle.printing.specs.Places.{held}

-- what a digit's ASCII code is worth: `0` to `9`, then `a` to `f`
unfoldable pub worth : ℕ → ℕ
worth c = cond (ltb c 58) (c - 48) (c - 87)

-- digits read from the left: each makes what was read so far the base times as much
unfoldable pub value_from : (base before : ℕ) → List ℕ → ℕ
unfolding worth
value_from base before [] = before
value_from base before (c ∷ l) = value_from base (before * base + worth c) l

unfoldable pub value : (base : ℕ) → List ℕ → ℕ
unfolding value_from
value base l = value_from base 0 l

-- ---- digits are read as what they are worth

worth_low : (c : ℕ) → c < 58 → worth c ≡ c - 48
unfolding worth
worth_low c h = ap (λ (b : Bool). cond b (c - 48) (c - 87)) (lt-ltb c 58 h)

worth_high : (c : ℕ) → 58 ≤ c → worth c ≡ c - 87
unfolding worth
worth_high c h = ap (λ (b : Bool). cond b (c - 48) (c - 87)) (le-ltb c 58 h)

worth_cases : (d : ℕ) (b : Bool) → ltb d 10 ≡ b → worth (cond b (48 + d) (87 + d)) ≡ d
worth_cases d true e = let l : d < 10 = ltb-true d 10 e in worth_low (48 + d) (omega arith) ∙ omega arith
worth_cases d false e = let l : 10 ≤ d = ltb-false d 10 e in worth_high (87 + d) (omega arith) ∙ omega arith

worth_glyph : (d : ℕ) → worth (hex_digit_ascii d) ≡ d
worth_glyph d = worth_cases d (ltb d 10) refl

value_last : (base before : ℕ) (l : List ℕ) (c : ℕ) → value_from base before (l ++ (c ∷ [])) ≡ value_from base before l * base + worth c
unfolding value_from
value_last base before [] c = refl
value_last base before (d ∷ l) c = value_last base (before * base + worth d) l c

digits_back : (base : ℕ) → 0 < base → (k n : ℕ) → n < base ^ k → value base (last_digits base k n) ≡ n
unfolding value
digits_back base some zero n h = let e : base ^ 0 ≡ 1 = pow-zero base in omega (arith, e)
digits_back base some (suc k) n h =
    let less : n / base < base ^ k = (div-lt_iff_lt-mul some).1 (subst (λ (x : ℕ). n < x) (pow-suc base k) h) in
    value_last base 0 (last_digits base k (n / base)) (hex_digit_ascii (n % base))
    ∙ ap₂ (λ (x y : ℕ). x * base + y) (digits_back base some k (n / base) less) (worth_glyph (n % base))
    ∙ div-add-mod' n base

-- ---- what is printed

pub decimal_back : (n : ℕ) → value 10 (decimal n) ≡ n
unfolding decimal
decimal_back n = digits_back 10 (omega arith) _ n (held n)

pub hexadecimal_back : (n : ℕ) → n < 2 ^ 64 → value 16 (hexadecimal n) ≡ n
unfolding hexadecimal
hexadecimal_back n h = digits_back 16 (omega arith) 16 n h

pub distance_back : (x : Float) → T (fits binary64 x) → of_bits binary64 (value 16 (hexadecimal (to_bits binary64 x))) ≡ x
distance_back x h = ap (of_bits binary64) (hexadecimal_back (to_bits binary64 x) (to_bits-lt binary64 x h)) ∙ of_bits-to_bits binary64 x h
