-- The first i answers are unset. Assumes nothing.
use mathlib.Core.Path.{◌≡◌, refl, sym, ap, ◌∙◌}
use mathlib.Core.Bool.{false}
use mathlib.Core.List.{List}
use Prim.Native.Nat.{ℕ, ◌+◌, ◌<◌}
use native.Mathlib.Numerals.{add-one}
use native.Mathlib.Omega.{arith}
use lib.ListN.{length, length-set, set, take, replicate, replicate-append-replicate}
use lib.Seq.{take_all, take-suc-set}
use lib.Ieee.{Float, inf, div, of_bits}
use Rattle.written.specs.Nearest.{unset}
use Rattle.leafnearest.specs.Answers.{answers}
use Rattle.leafnearest.proofs.Stored.{length_answers, set_answers}
use Rattle.held.proofs.beginning.clear.Goals as goal

-- one more
unset-next : (items : List ℕ) (dists : List Float) (i : ℕ) → length dists ≡ length items → i < length items → take i (answers items dists) ≡ replicate i unset → take (i + 1) (answers (set items i 0) (set dists i (inf false))) ≡ replicate (i + 1) unset
unset-next items dists i e l h =
    rw (add-one i, set_answers items dists i 0 (inf false), take-suc-set (answers items dists) i unset (omega (arith, length_answers items dists (sym e))), h)
    (replicate-append-replicate i 1 unset ∙ ap (λ (n : ℕ). replicate n unset) (add-one i))

pub loop-i-init : goal.loop-i-init
unfolding div of_bits
loop-i-init c = (refl, c.requires, refl, refl)

pub loop-i-preserved : goal.loop-i-preserved
loop-i-preserved c = let w = c.loop-i in
    (simp length-set w.invariant.0, simp length-set w.invariant.1, w.invariant.2, rw w.invariant.2 (unset-next w.items w.dists w.i (omega arith) (omega arith) w.invariant.3))

pub returns : goal.returns
returns c = let w = c.loop-i in
    let a = c.args in
    let all : w.i ≡ length a.items.now = omega arith in
    sym (take_all w.i (answers w.items w.dists) (omega (arith, length_answers w.items w.dists (omega arith)))) ∙ w.invariant.3 ∙ ap (λ (n : ℕ). replicate n unset) all
