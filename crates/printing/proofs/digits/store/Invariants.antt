-- The digits still to write, and then those written, are the digits of n.
use Rattle.std.proofs.Common.{◌≡◌, ◌++◌, take, drop}
use Rattle.printing.specs.Digits.{last_digits}
use Rattle.printing.proofs.digits.store.Given as goal

abbrev pub invariant-loop-i : goal.invariant-loop-i
invariant-loop-i l = last_digits l.base l.i l.rest ++ drop l.i (take l.k l.out) ≡ last_digits l.base l.k l.n
