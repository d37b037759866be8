-- Values without a sign, and values with their sign left off. Assumes nothing.
use Rattle.std.specs.Prelude.{◌≡◌, refl, ℕ, zero, suc, ◌+◌, ◌*◌, ◌^◌, ◌≤◌, Bool, true, false, not, cond, T, ltb, Float}
use Rattle.std.proofs.Common.{mul_comm, mul-pos, zero-mul, arith}
use Rattle.std.specs.Float.{nan, inf, fin, Format}
use Rattle.std.specs.Float.Ieee.{prec, emax, low, up, down, odd, units, round, le, is_nan}
use Rattle.std.specs.Float.Ieee.Fits.{down_pos}
use Rattle.std.specs.Float.Ieee.Scale.{finite}
use Rattle.std.specs.Float.Ieee.Positive.{num, den, den_pos}
use Rattle.rounding.specs.Distance.{zero₊}
use Rattle.rounding.proofs.Fraction.{sgn, Val, Le, val_of, le→Le, Le→le}
use Rattle.rounding.proofs.Order.{known}

-- not a NaN, and not negative, not even -0
abbrev pub plain : Float → Bool
plain nan = false
plain (inf s) = not s
plain (fin s m e) = not s

pub plain_known : (x : Float) → T (plain x) → T (known x)
unfolding is_nan
plain_known nan h = h
plain_known (inf s) h = tt
plain_known (fin s m e) h = tt

abbrev pub abs : Float → Float
abs nan = nan
abs (inf s) = inf false
abs (fin s m e) = fin false m e

-- ---- the order of values without a sign is the order of their sizes
plain_sgn : (x : Float) → T (plain x) → T (not (sgn x))
plain_sgn nan h = absurd h
plain_sgn (inf s) h = h
plain_sgn (fin s m e) h = h

pub le→≤ : {x y : Float} {a b N : ℕ} → T (plain x) → T (plain y) → Val x a N → Val y b N → T (le x y) → a ≤ b
le→≤ {x} {y} {a} {b} i j p q h = go (sgn x) (sgn y) (plain_sgn x i) (plain_sgn y j) (le→Le p q h)
  where
    go : (s t : Bool) → T (not s) → T (not t) → Le s a t b → a ≤ b
    go true t i j l = absurd i
    go false true i j l = absurd j
    go false false i j l = omega arith

pub cross_le : (x y : Float) → T (finite x) → T (finite y) → T (plain x) → T (plain y) → T (le x y) → num x * den y ≤ num y * den x
cross_le x y p q i j h =
    let P = mul-pos (den_pos x) (den_pos y) in
    le→≤ i j (val_of x (den y) (den x * den y) p P refl) (val_of y (den x) (den x * den y) q P (mul_comm (den y) (den x))) h

-- none is below +0
pub zero-le : (x : Float) → T (plain x) → T (le zero₊ x)
unfolding le
zero-le nan h = h
zero-le (inf false) h = tt
zero-le (inf true) h = h
zero-le (fin true m e) h = absurd h
zero-le (fin false m e) h =
    let none : Val zero₊ 0 (down e) = record { bounded = tt; under = down_pos e; cross = zero-mul (down e) } in
    let own : Val (fin false m e) (m * up e) (down e) = record { bounded = tt; under = down_pos e; cross = refl } in
    Le→le none own (omega arith)

-- ---- rounding puts the sign on last
units_plain : (f : Format) (q k : ℕ) → T (plain (units f false q k))
unfolding units odd
units_plain f q k = go (ltb (q * 2 ^ k) (2 ^ (low f + suc (emax f)))) q
  where
    go : (b : Bool) (q : ℕ) → T (plain (cond b (odd (suc (prec f)) false q k (low f)) (inf false)))
    go true zero = tt
    go true (suc q) = tt
    go false q = tt

pub round_plain : (f : Format) (a c : ℕ) → T (plain (round f false a c))
unfolding round
round_plain f a c = units_plain f _ _

units_abs : (f : Format) (s : Bool) (q k : ℕ) → abs (units f s q k) ≡ units f false q k
unfolding units odd
units_abs f s q k = go (ltb (q * 2 ^ k) (2 ^ (low f + suc (emax f)))) q
  where
    go : (b : Bool) (q : ℕ) → abs (cond b (odd (suc (prec f)) s q k (low f)) (inf s)) ≡ cond b (odd (suc (prec f)) false q k (low f)) (inf false)
    go true zero = refl
    go true (suc q) = refl
    go false q = refl

pub round_abs : (f : Format) (s : Bool) (a c : ℕ) → abs (round f s a c) ≡ round f false a c
unfolding round
round_abs f s a c = units_abs f s _ _
