-- Document 01, "A lent tree", as theorems: what the definitions of levels and nodes say. Assumes nothing.
use Rattle.std.specs.Prelude.{◌≡◌, ℕ, suc, ◌+◌, ◌-◌, ◌^◌, ◌≤◌, ◌<◌, min}
use Rattle.std.proofs.Common.{arith, pow_pos, pow_mono}
use Rattle.written.specs.LentTree.{Tree, leaves, levels, Cursor, span, middle, Node}
use Rattle.written.proofs.Laws.LentTree.{placed, pow_half, levels_enough, levels_least}

-- 2^levels is the next power of two from m: not below m, and no smaller one is
pub next_power : (m : ℕ) → (m ≤ 2 ^ levels m) × ((n : ℕ) → m ≤ 2 ^ n → levels m ≤ n)
next_power m = (levels_enough m, levels_least m)

module _ {t : Tree} {c : Cursor} (n : Node t c) where
  -- a node splits at f + 2^(r-1), clipped to the leaf count
  pub splits_clipped : 0 < c.rest → middle c ≡ min (c.first + 2 ^ (c.rest - 1)) (leaves t)
  splits_clipped h = omega (arith, pow_half c.rest h, (placed n).clipped)

  -- a node with a level left has a stem of the tree
  pub stem_in_tree : 0 < c.rest → (0 < c.stem) × (c.stem < 2 ^ levels (leaves t))
  stem_in_tree h = (omega (arith, (placed n).low, pow_pos c.level), omega (arith, (placed n).high, pow_mono {i = suc c.level} {j = levels (leaves t)} (omega (arith, (placed n).sum))))

  -- a node with no levels left is one leaf, or none
  pub leaf_spans_one : c.rest ≡ 0 → span c ≤ 1
  leaf_spans_one e =
      let x : c.end ≡ min (c.first + 2 ^ 0) (leaves t) = rw e at (placed n).clipped in
      omega arith
