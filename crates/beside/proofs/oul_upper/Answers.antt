-- The test of the axes decides. Assumes nothing.
use mathlib.Core.Path.{refl}
use native.Mathlib.Omega.{arith}
use borrow.Author.Tests.{lt-leb}
use lib.Ieee.{div, of_bits}
use Rattle.beside.proofs.oul_upper.Goals as goal

pub returns-then-k-gt4 : goal.returns-then-k-gt4
unfolding div of_bits
returns-then-k-gt4 c = rw (lt-leb c.args.k 4 (omega arith)) refl
