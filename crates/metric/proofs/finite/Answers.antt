-- Only NaN differs from itself. What the bits of a value read back is the value, and `of_fields` gives an infinity or a NaN at an exponent's field of all ones alone.
-- Assumes nothing.
use mathlib.Core.Path.{◌≡◌, refl, sym, ap, ◌∙◌, subst}
use mathlib.Core.Bool.{Bool, true, false, not, cond}
use Prim.Native.Nat.{ℕ, zero, suc, ◌+◌, ◌/◌, ◌%◌}
use lib.Dec.{T, eqb, leb}
use lib.Pow.{field}
use lib.Ieee.{Float, nan, inf, fin, binary64, prec, low, hid, top, odd, of_fields, of_bits, to_bits, fits, is_nan, ne}
use lib.Ieee.Bits.{of_bits-to_bits}
use lib.Ieee.Compare.{differs_from_itself, nan_differs}
use lib.Ieee.Scale.{finite}
use Rattle.metric.proofs.finite.Goals as goal

-- ---- the first test
no_nan : (x : Float) → ne x x ≡ false → T (not (is_nan x))
unfolding is_nan
no_nan nan h = subst T (sym nan_differs ∙ h) tt
no_nan (inf s) h = tt
no_nan (fin s m e) h = tt

-- ---- the second
odd-finite : (d : ℕ) (s : Bool) (q k l : ℕ) → finite (odd d s q k l) ≡ true
unfolding odd
odd-finite d s zero k l = refl
odd-finite d s (suc q) k l = refl

chosen : (a b : Bool) (s : Bool) (x : Float) → finite x ≡ true → finite (cond a (cond b (inf s) nan) x) ≡ not a
chosen true true s x h = refl
chosen true false s x h = refl
chosen false b s x h = h

fields-finite : (s : Bool) (x t : ℕ) → finite (of_fields binary64 s x t) ≡ not (eqb x 2047)
unfolding of_fields
fields-finite s zero t = odd-finite (prec binary64) s t 0 (low binary64)
fields-finite s (suc x) t = chosen (eqb (suc x) 2047) (eqb t 0) s (odd (prec binary64) s (hid binary64 + t) x (low binary64)) (odd-finite (prec binary64) s (hid binary64 + t) x (low binary64))

read-finite : (b : ℕ) → finite (of_bits binary64 b) ≡ not (eqb (b / 0x10000000000000 % 2048) 2047)
unfolding of_bits
read-finite b = fields-finite (leb (top binary64) b) (b % top binary64 / hid binary64) (b % hid binary64) ∙ ap (λ (x : ℕ). not (eqb x 2047)) (field b 11 52)

-- ---- the function
pub returns-then-x : goal.returns-then-x
returns-then-x c = sym (ap finite (differs_from_itself c.args.x (subst T (sym c.if-x.true) tt)))

pub float_to_bits-exponent : goal.float_to_bits-exponent
float_to_bits-exponent c = no_nan c.args.x c.if-x.false

-- owning an f64 tells that the format holds it
pub returns : goal.returns
returns c =
    let x = c.args.x in
    let held : T (fits binary64 x) = subst T (sym c.well_formed.0.1) tt in
    sym (read-finite (to_bits binary64 x)) ∙ ap finite (of_bits-to_bits binary64 x held)
