-- A value that its format holds is what its own fraction rounds to, and is written in one way: so +0 plus it is itself, as data. Assumes nothing.
use Rattle.std.specs.Prelude.{◌≡◌, refl, ℕ, zero, suc, ◌+◌, ◌-◌, ◌*◌, ◌/◌, ◌%◌, ◌^◌, ◌≤◌, ◌<◌, Bool, true, false, cond, ℤ, pos, negsuc, T, leb, ltb, eqb, Float}
use Rattle.std.proofs.Common.{sym, ap, ◌∙◌, subst, le_antisymm, lt_of_not-le, not-le_of_lt, le_of_suc-le-suc, zero-lt-suc, zero-mul, mul-one, one-mul, mul_comm, mul_assoc, mul_right_comm, mul-pos, mul-lt-mul_of_pos_right, lt_of_mul-lt-mul_right, arith, ltb→lt, leb→le, pow-add, pow_pos}
use Rattle.std.proofs.Math.Pow.{pow-lt}
use Rattle.std.specs.Float.{nan, inf, fin, Format}
use Rattle.std.specs.Float.Ieee.{prec, emax, low, up, down, size, round, sum, add, fits, le, to_bits, of_bits, top, hid}
use Rattle.std.specs.Float.Ieee.Fits.{down_pos, round-fits}
use Rattle.std.specs.Float.Ieee.Digits.{back}
use Rattle.std.specs.Float.Ieee.Bits.{of_bits-to_bits}
use Rattle.std.specs.Float.Ieee.Exact.{HasValue, round_exact}
use Rattle.std.specs.Float.Ieee.Nearest.{div_same}
use Rattle.std.specs.Float.Ieee.Scale.{round_same}
use Rattle.rounding.specs.Distance.{zero₊}
use Rattle.rounding.proofs.Fraction.{four}
use Rattle.rounding.proofs.Signs.{plain, cross_le}

-- ---- the one way
bits_of : (f : Format) (s : Bool) (n : ℕ) → ℕ
bits_of f s n = cond s (top f) 0 + (size n - prec f) * hid f + n / 2 ^ (size n - prec f)

bits_is : (f : Format) (s : Bool) (m : ℕ) (e : ℤ) → to_bits f (fin s m e) ≡ bits_of f s (m * up e * 2 ^ low f / down e)
unfolding to_bits bits_of
bits_is f s m e = refl

-- two values that fit, with one sign and equal in size
unique_fin : (f : Format) (s : Bool) (m : ℕ) (e : ℤ) (n : ℕ) (d : ℤ) → T (fits f (fin s m e)) → T (fits f (fin s n d))
    → m * up e * down d ≡ n * up d * down e → fin s m e ≡ fin s n d
unique_fin f s m e n d p q h =
    let A = m * up e in
    let B = n * up d in
    let l = 2 ^ low f in
    let cross : A * l * down d ≡ B * l * down e = mul_right_comm A l (down d) ∙ ap (λ (z : ℕ). z * l) h ∙ mul_right_comm B (down e) l in
    let same : A * l / down e ≡ B * l / down d = div_same (A * l) (down e) (B * l) (down d) (down_pos e) (down_pos d) cross in
    sym (of_bits-to_bits f (fin s m e) p)
    ∙ ap (of_bits f) (bits_is f s m e ∙ ap (bits_of f s) same ∙ sym (bits_is f s n d))
    ∙ of_bits-to_bits f (fin s n d) q

-- a value that fits, from a fraction that it equals
unique : (f : Format) (x : Float) (s : Bool) (m : ℕ) (e : ℤ) → T (fits f x) → T (fits f (fin s m e)) → HasValue x s (m * up e) (down e) → x ≡ fin s m e
unique f nan s m e p q h = absurd h
unique f (inf t) s m e p q h = absurd h
unique f (fin t n d) s m e p q h =
    ap (λ (z : Bool). fin z n d) h.0 ∙ unique_fin f s n d m e (subst (λ (z : Bool). T (fits f (fin z n d))) h.0 p) q h.1

-- ---- what its own fraction rounds to
pow_le : (a b : ℕ) → 2 ^ a ≤ 2 ^ b → a ≤ b
pow_le a b h = le_of_suc-le-suc (lt_of_not-le (λ (g : suc b ≤ a). not-le_of_lt (pow-lt g) h))

-- 2 ^ e in units of 2 ^ -l is a power of two
shift : (e : ℤ) (l : ℕ) → down e ≤ 2 ^ l → (j : ℕ) × (up e * 2 ^ l ≡ 2 ^ j * down e)
shift (pos k) l h = (k + l, sym (pow-add 2 k l) ∙ sym (mul-one (2 ^ (k + l))))
shift (negsuc k) l h =
    let j : l - suc k + suc k ≡ l = back l (suc k) (pow_le (suc k) l h) in
    (l - suc k, one-mul (2 ^ l) ∙ ap (λ (z : ℕ). 2 ^ z) (sym j) ∙ pow-add 2 (l - suc k) (suc k))

own_val : (f : Format) (s : Bool) (m : ℕ) (e : ℤ) → m < 2 ^ prec f → down e ≤ 2 ^ low f → m * up e < 2 ^ suc (emax f) * down e
    → HasValue (round f s (m * up e) (down e)) s (m * up e) (down e)
own_val f s m e a b c =
    let l = low f in
    let w = shift e l b in
    let j = w.0 in
    let E = suc (emax f) in
    let same : m * up e * 2 ^ l ≡ m * 2 ^ j * down e = mul_assoc m (up e) (2 ^ l) ∙ ap (λ (z : ℕ). m * z) w.1 ∙ sym (mul_assoc m (2 ^ j) (down e)) in
    let top : 2 ^ E * down e * 2 ^ l ≡ 2 ^ (l + E) * down e = mul_right_comm (2 ^ E) (down e) (2 ^ l) ∙ ap (λ (z : ℕ). z * down e) (mul_comm (2 ^ E) (2 ^ l) ∙ sym (pow-add 2 l E)) in
    let below : m * 2 ^ j * down e < 2 ^ (l + E) * down e = rw (sym same, sym top) (mul-lt-mul_of_pos_right c (pow_pos l)) in
    round_exact f s (m * up e) (down e) m j (down_pos e) a (lt_of_mul-lt-mul_right (down e) below) same

fits_val : (f : Format) (s : Bool) (m : ℕ) (e : ℤ) → T (fits f (fin s m e)) → HasValue (round f s (m * up e) (down e)) s (m * up e) (down e)
unfolding fits
fits_val f s zero e t = round_exact f s (0 * up e) (down e) 0 0 (down_pos e) (pow_pos (prec f)) (pow_pos (low f + suc (emax f))) (simp zero-mul)
fits_val f s (suc m) e t =
    let h = four (eqb (suc m % 2) 1) (ltb (suc m) (2 ^ prec f)) (leb (down e) (2 ^ low f)) (ltb (suc m * up e) (2 ^ suc (emax f) * down e)) t in
    own_val f s (suc m) e (ltb→lt _ _ h.1) (leb→le _ _ h.2) (ltb→lt _ _ h.3)

-- a value that fits is what its own fraction rounds to
round_own : (f : Format) (s : Bool) (m : ℕ) (e : ℤ) → T (fits f (fin s m e)) → round f s (m * up e) (down e) ≡ fin s m e
round_own f s m e t = unique f (round f s (m * up e) (down e)) s m e (round-fits f s (m * up e) (down e)) t (fits_val f s m e t)

-- ---- +0 plus a value without a sign is that value, as data
pub zero-add : (f : Format) (x : Float) → T (fits f x) → T (plain x) → add f zero₊ x ≡ x
unfolding add sum
zero-add f nan t p = refl
zero-add f (inf s) t p = refl
zero-add f (fin true m e) t p = absurd p
zero-add f (fin false m e) t p =
    round_same f false (0 * down e + m * up e * 1) (1 * down e) (m * up e) (down e) (mul-pos (zero-lt-suc 0) (down_pos e)) (down_pos e) (same (m * up e) (down e))
    ∙ round_own f false m e t
  where
    same : (a b : ℕ) → (0 * b + a * 1) * b ≡ a * (1 * b)
    same a b = let plus : 0 * b + a * 1 ≡ a = omega arith in rw (plus, one-mul b)

-- ---- two values that fit and have no sign are equal as data where neither is below the other
pub plain_antisymm : (f : Format) (x y : Float) → T (fits f x) → T (fits f y) → T (plain x) → T (plain y) → T (le x y) → T (le y x) → x ≡ y
unfolding le
plain_antisymm f nan y t u p q h k = absurd p
plain_antisymm f (inf true) y t u p q h k = absurd p
plain_antisymm f (inf false) nan t u p q h k = absurd q
plain_antisymm f (inf false) (inf true) t u p q h k = absurd q
plain_antisymm f (inf false) (inf false) t u p q h k = refl
plain_antisymm f (inf false) (fin b n d) t u p q h k = absurd h
plain_antisymm f (fin true m e) y t u p q h k = absurd p
plain_antisymm f (fin false m e) nan t u p q h k = absurd q
plain_antisymm f (fin false m e) (inf true) t u p q h k = absurd q
plain_antisymm f (fin false m e) (inf false) t u p q h k = absurd k
plain_antisymm f (fin false m e) (fin true n d) t u p q h k = absurd q
plain_antisymm f (fin false m e) (fin false n d) t u p q h k =
    let x = fin false m e in
    let y = fin false n d in
    unique_fin f false m e n d t u (le_antisymm (cross_le x y tt tt p q h) (cross_le y x tt tt q p k))
