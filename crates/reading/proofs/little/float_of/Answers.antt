-- A pattern whose magnitude is at most the infinity's is no NaN's; any other is read as NaN, the one there is. Assumes nothing.
use mathlib.Core.Path.{◌≡◌, refl, sym, subst, ◌∙◌}
use mathlib.Core.Bool.{Bool, true, not, false≢true}
use Prim.Native.Nat.{◌%◌, ◌≤◌, ◌<◌}
use native.Mathlib.Omega.{arith}
use borrow.Author.Tests.{le-ltb, lt-ltb}
use lib.Dec.{T}
use lib.Ieee.{Float, nan, inf, fin, is_nan, of_bits, binary64}
use lib.Ieee.Bits.{nan_bits_above, nan_bits_is}
use Rattle.reading.proofs.little.float_of.Goals as goal

is-nan : (x : Float) → is_nan x ≡ true → nan ≡ x
unfolding is_nan
is-nan nan e = refl
is-nan (inf s) e = absurd (false≢true e)
is-nan (fin s m k) e = absurd (false≢true e)

no_number : of_bits binary64 0x7ff8000000000000 ≡ nan
unfolding of_bits
no_number = refl

pub float_from_bits-result : goal.float_from_bits-result
float_from_bits-result c =
    let low : c.args.bits % 0x8000000000000000 ≤ 0x7ff0000000000000 = omega arith in
    subst (λ (b : Bool). T (not b)) (sym (nan_bits_above binary64 c.args.bits ∙ le-ltb _ _ low)) tt

pub returns : goal.returns
returns c =
    let high : 0x7ff0000000000000 < c.args.bits % 0x8000000000000000 = omega arith in
    no_number ∙ is-nan _ (sym (nan_bits_is binary64 c.args.bits) ∙ nan_bits_above binary64 c.args.bits ∙ lt-ltb _ _ high)
