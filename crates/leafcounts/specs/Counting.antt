-- Pairs gathered as a number: it grows by as many as there are. Assumes nothing.
use Rattle.std.specs.Prelude.{◌≡◌, List, ◌+◌, length}
use Rattle.std.proofs.Common.{arith, length-append}
use Rattle.written.specs.RadiusWalk.{Found}
use Rattle.leaf.specs.Kept.{Countable}
use Rattle.leaf.specs.Gathering.{GatherLaws}
use Rattle.leafcounts.specs.declared.Count.{Count}

abbrev pub CanCount : Count → List Found → Type 0
CanCount a l = Countable a.pairs l

abbrev pub Counted : Count → List Found → Count → Type 0
Counted a l b = b.pairs ≡ a.pairs + length l

pub counting_laws : GatherLaws CanCount Counted
counting_laws = record {
  none = λ a. omega arith;
  both = λ a b c l m h k. omega (arith, h, k, length-append l m);
  first = λ a l m h. omega (arith, h, length-append l m);
  then = λ a b l m h k. omega (arith, h, k, length-append l m);
}
