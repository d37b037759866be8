-- How many decimal digits a number has: as many as hold it, and no fewer do. Assumes nothing.
use Rattle.std.specs.Prelude.{◌≡◌, refl, Bool, true, false, cond, ℕ, zero, suc, ◌-◌, ◌*◌, ◌/◌, ◌^◌, ◌≤◌, ◌<◌, ltb, leb}
use Rattle.std.proofs.Common.{sym, ap, subst, ◌∙◌, le_refl, pow-suc, div-lt_iff_lt-mul, le-div_iff_mul-le, arith, ltb-true, ltb-false, leb-true, leb-false}
use Rattle.std.proofs.Math.Nat.{pow-le-pow_right}
use Rattle.printing.specs.Digits.{IsDigitCount, last_digits}
use Rattle.printing.specs.Numerals.{places, decimal}

some_ten : 0 < 10
some_ten = omega arith

-- ---- they hold it

hold_step : (n more : ℕ) (b : Bool) → ltb n 10 ≡ b → (10 ≤ n → n / 10 < 10 ^ more) → n < 10 ^ cond b 1 (suc more)
hold_step n more true e m = ltb-true n 10 e
hold_step n more false e m = subst (λ (x : ℕ). n < x) (sym (pow-suc 10 more)) ((div-lt_iff_lt-mul some_ten).0 (m (ltb-false n 10 e)))

places_hold : (fuel n : ℕ) → n ≤ fuel → n < 10 ^ places fuel n
unfolding places
places_hold zero n h = omega arith
places_hold (suc fuel) n h = hold_step n (places fuel (n / 10)) (ltb n 10) refl (λ (l : 10 ≤ n). places_hold fuel (n / 10) (omega arith))

pub held : (n : ℕ) → n < 10 ^ places n n
held n = places_hold n n (le_refl n)

-- ---- no fewer do

at_most_by : (base least most n k : ℕ) (b : Bool) → leb k most ≡ b → 0 < base → least ≤ most → n < base ^ most → IsDigitCount base least n k → k ≤ most
at_most_by base least most n k true e p h l f = leb-true k most e
at_most_by base least most n k false e p h l f =
    let g : most < k = leb-false k most e in
    let m : base ^ most ≤ base ^ (k - 1) = pow-le-pow_right p (omega arith) in
    let q : base ^ (k - 1) ≤ n = f.2 (omega arith) in
    absurd (omega (arith, m, q, l))

-- in any base: what `most` digits hold needs no more of them
pub at_most : (base least most n k : ℕ) → 0 < base → least ≤ most → n < base ^ most → IsDigitCount base least n k → k ≤ most
at_most base least most n k = at_most_by base least most n k (leb k most) refl

one_digit : (n k : ℕ) → n < 10 → IsDigitCount 10 1 n k → k ≡ 1
one_digit n k l f = let m : k ≤ 1 = at_most 10 1 1 n k some_ten (omega arith) l f in omega (arith, m, f.0)

-- of a tenth there is one digit fewer
tenth : (n j : ℕ) → 10 ≤ n → IsDigitCount 10 1 n (suc j) → IsDigitCount 10 1 (n / 10) j
tenth n zero l f = let g : n < 10 = f.1 in absurd (omega arith)
tenth n (suc j) l f =
    let fits : n / 10 < 10 ^ suc j = (div-lt_iff_lt-mul some_ten).1 (subst (λ (x : ℕ). n < x) (pow-suc 10 (suc j)) f.1) in
    let e : suc (suc j) - 1 ≡ suc (suc j - 1) = omega arith in
    let most : 10 ^ (suc j - 1) * 10 ≤ n = subst (λ (x : ℕ). x ≤ n) (ap (λ (x : ℕ). 10 ^ x) e ∙ pow-suc 10 (suc j - 1)) (f.2 (omega arith)) in
    (omega arith, fits, λ (h : 1 < suc j). (le-div_iff_mul-le some_ten).1 most)

fewest_step : (n j more : ℕ) (b : Bool) → ltb n 10 ≡ b → IsDigitCount 10 1 n (suc j) → (10 ≤ n → j ≡ more) → suc j ≡ cond b 1 (suc more)
fewest_step n j more true e f m = one_digit n (suc j) (ltb-true n 10 e) f
fewest_step n j more false e f m = ap suc (m (ltb-false n 10 e))

places_fewest : (fuel n k : ℕ) → n ≤ fuel → IsDigitCount 10 1 n k → k ≡ places fuel n
unfolding places
places_fewest zero n k h f = one_digit n k (omega arith) f
places_fewest (suc fuel) n zero h f = absurd (omega (arith, f.0))
places_fewest (suc fuel) n (suc j) h f = fewest_step n j (places fuel (n / 10)) (ltb n 10) refl f (λ (l : 10 ≤ n). places_fewest fuel (n / 10) j (omega arith) (tenth n j l f))

pub fewest_places : (n k : ℕ) → IsDigitCount 10 1 n k → k ≡ places n n
fewest_places n k f = places_fewest n n k (le_refl n) f

pub fewest_decimal : (n k : ℕ) → IsDigitCount 10 1 n k → last_digits 10 k n ≡ decimal n
unfolding decimal
fewest_decimal n k f = ap (λ (j : ℕ). last_digits 10 j n) (fewest_places n k f)
