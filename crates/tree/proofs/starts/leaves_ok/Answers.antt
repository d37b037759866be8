-- The chain goes through the leaves until one is wrong; the window's next start stands at i + 1. Assumes nothing.
use Rattle.std.proofs.Common.{◌≡◌, refl, ◌∙◌, Bool, true, ◌&&◌, ◌↔◌, IsTrue, ℕ, ◌+◌, ◌-◌, ◌<◌, length, leb, add-one, rules, arith}
use Rattle.written.specs.LentTree.{Tree, start, leaves}
use Rattle.written.specs.Check.{leaf_ok}
use Rattle.cursor.specs.Lent.{lent_tree}
use Rattle.tree.proofs.Every.{all_passed, agree}
use Rattle.tree.proofs.starts.leaves_ok.Goals as goal

abbrev test : Tree → ℕ → Bool
test t i = leb (start t i) (start t (i + 1)) && leb (start t (i + 1) - start t i) 1024

next-at : (t : Tree) (i : ℕ) → test t i ≡ leaf_ok 0 t i
next-at t i = rw (add-one i) refl

each : (c : goal.After-all) → let t = lent_tree c.args.tree.now in IsTrue c.all.result ↔ ((i : ℕ) → i + 1 < length t.starts → test t i ≡ true)
each c = search rules

pub returns : goal.returns
returns c =
    let t = lent_tree c.args.tree.now in
    all_passed (test t) (leaves t) (λ e i h. (each c).0 e i (omega arith), λ h. (each c).1 (λ i k. h i (omega arith)))
    ∙ agree (test t) (leaf_ok 0 t) 0 0 (leaves t) (λ i h. next-at t (0 + i))
