use Rattle.std.proofs.Common.{◌≡◌, refl, sym, true}
use Rattle.std.specs.Float.Ieee.{Float, is_nan, to_bits}
use Rattle.std.specs.Float.{nan, inf, fin, binary64}
use Rattle.printing.proofs.numerals.bits.Goals as goal

nan_bits : (x : Float) → is_nan x ≡ true → 0x7ff8000000000000 ≡ to_bits binary64 x
unfolding to_bits is_nan
nan_bits nan e = refl
nan_bits (inf s) e = cc
nan_bits (fin s m k) e = cc

pub returns-then-is_nan : goal.returns-then-is_nan
returns-then-is_nan c = nan_bits c.args.x (sym c.if-is_nan.ensures.value)
