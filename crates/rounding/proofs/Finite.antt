-- The test for a finite value by arithmetic, x - x == 0, says what `finite` says. Assumes nothing.
use Rattle.std.specs.Prelude.{◌≡◌, refl, ℕ, ◌<◌, true, false, pos, T, Float}
use Rattle.std.proofs.Common.{sym, ap, ◌∙◌, zero-mul, arith}
use Rattle.std.specs.Float.{nan, inf, fin, Format, binary32, binary64}
use Rattle.std.specs.Float.Ieee.{round, sub, eq}
use Rattle.std.specs.Float.Ieee.Fits.{down_pos}
use Rattle.std.specs.Float.Ieee.Scale.{finite, round_same}
use Rattle.rounding.proofs.Fraction.{sgn, common}
use Rattle.rounding.specs.Distance.{zero₊}
use Rattle.rounding.proofs.Order.{zeros}
use Rattle.rounding.proofs.Signs.{abs}
use Rattle.rounding.proofs.Squares.{gap, sub_abs}

at_one : (f : Format) → round f false 0 1 ≡ zero₊
unfolding round
at_one binary32 = refl
at_one binary64 = refl

round_zero : (f : Format) (c : ℕ) → 0 < c → round f false 0 c ≡ zero₊
round_zero f c P = round_same f false 0 c 0 1 P (down_pos (pos 0)) (zero-mul 1 ∙ sym (zero-mul c)) ∙ at_one f

-- a zero of either sign equals +0
zero_of_abs : (x : Float) → abs x ≡ zero₊ → eq x zero₊ ≡ true
zero_of_abs nan h = let no : ◌≡◌ {A = ℕ} 0 1 = cc in absurd (omega arith)
zero_of_abs (inf s) h = let no : ◌≡◌ {A = ℕ} 0 1 = cc in absurd (omega arith)
zero_of_abs (fin s m e) h = let is : fin s m e ≡ fin s 0 (pos 0) = cc in ap (λ (x : Float). eq x zero₊) is ∙ (zeros s false).0

self_zero : (f : Format) (x : Float) → T (finite x) → eq (sub f x x) zero₊ ≡ true
self_zero f x h =
    let n = common x x x x h h h h in
    let none : gap (sgn x) n.a (sgn x) n.a ≡ 0 = omega arith in
    zero_of_abs (sub f x x) (sub_abs f n.vx n.vx ∙ ap (λ (z : ℕ). round f false z n.over) none ∙ round_zero f n.over n.vx.under)

-- the test passes on the finite values, and on no other
pub finite_test : (f : Format) (x : Float) → eq (sub f x x) zero₊ ≡ finite x
unfolding sub eq
finite_test f nan = refl
finite_test f (inf false) = refl
finite_test f (inf true) = refl
finite_test f (fin s m e) = self_zero f (fin s m e) tt
