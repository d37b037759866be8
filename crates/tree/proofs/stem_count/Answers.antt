-- The shift is 2^levels, at most 4096. Assumes nothing.
use Rattle.std.proofs.Common.{◌≡◌, ◌∙◌, ℕ, ◌*◌, ◌%◌, ◌^◌, ◌≤◌, arith}
use native.Mathlib.Nat.{one-mul}
use borrow.Author.Tests.{le-ltb}
use lib.Dec.{lit<}
use lib.Pow.{shl_exact}
use Rattle.written.proofs.Laws.LentTree.{levels_least}
use Rattle.tree.proofs.stem_count.Goals as goal

shift_is : (r : ℕ) → r ≤ 12 → (1 * 2 ^ r) % 18446744073709551616 ≡ 2 ^ r
shift_is r h = shl_exact {a = 1} 1 r 64 (lit< tt) (omega arith) ∙ one-mul _

few : (c : goal.After-levels) → c.levels.result ≤ 12
few c = omega (arith, levels_least c.args.m 12 c.requires)

pub overflow_shl-result : goal.overflow_shl-result
overflow_shl-result c = omega (arith, few c)

pub returns-else-m-lt2 : goal.returns-else-m-lt2
returns-else-m-lt2 c =
    rw (le-ltb c.args.m 2 (omega arith), shift_is _ (few c), c.levels.ensures)
