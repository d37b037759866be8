-- The first i answers are done: with the others changed as the definition says, it is the whole change. Assumes nothing.
use mathlib.Core.Path.{◌≡◌}
use Prim.Native.Nat.{◌≤◌}
use lib.ListN.{length}
use Rattle.leaf.specs.Sums.{reached}
use Rattle.leafnearest.specs.Answers.{answers, offered}
use Rattle.leafnearest.specs.Each.{changed_from}
use Rattle.leafnearest.proofs.Stored.{takes}
use Rattle.leafnearest.proofs.keep_nearer.Given as goal

abbrev pub invariant-loop-i : goal.invariant-loop-i
invariant-loop-i l = (length l.column ≤ 32) × (length l.items ≡ length l.column) × (length l.dists ≡ length l.column) × (changed_from (takes (reached l.sums l.q l.column) l.item) l.i l.i (answers l.items l.dists) ≡ offered (reached l.sums l.q l.column) l.item (answers l.initial.items l.initial.dists))
