-- Each turn puts one byte more. Assumes nothing.
use Rattle.std.proofs.Common.{◌≡◌, ℕ, ◌+◌, ◌<◌, List, [], ◌∷◌, ◌++◌, length, take, get_or, refl, sym, subst, arith, add-one, take_all}
use Rattle.std.proofs.Math.ListN.{set}
use Rattle.std.proofs.Math.Seq.{take-suc}
use Rattle.printing.specs.Puts.{Puts}
use Rattle.printing.specs.Putting.{puts_one, puts_then, puts_as}
use Rattle.printing.proofs.page.Page.text.Goals as goal

-- one more
next : {b c d : List ℕ} {at : ℕ} (s : List ℕ) (i : ℕ) → i < length s → Puts b at (take i s) c (at + i) → d ≡ set c (at + i) (get_or s i 0) → Puts b at (take (i + 1) s) d (at + (i + 1))
next {b} {c} {d} {at} s i h p e =
    let q : Puts b at (take i s ++ (get_or s i 0 ∷ [])) d (at + i + 1) = puts_then p (puts_one e) in
    let f : at + i + 1 ≡ at + (i + 1) = omega arith in
    let g : take i s ++ (get_or s i 0 ∷ []) ≡ take (i + 1) s = rw (add-one, take-suc s i 0) refl in
    puts_as g (subst (λ (k : ℕ). Puts b at (take i s ++ (get_or s i 0 ∷ [])) d k) f q)

pub loop-i-init : goal.loop-i-init
loop-i-init c = record { same_buffer = refl; place = refl; put = record { stored = refl; counted = refl } }

pub loop-i-preserved : goal.loop-i-preserved
loop-i-preserved c =
    let l = c.loop-i in
    let i = l.invariant in
    record { same_buffer = i.same_buffer; place = i.place; put = next c.args.s.now l.i (omega arith) i.put (rw (sym i.place) c.put.ensures) }

pub returns-clause-puts : goal.returns-clause-puts
returns-clause-puts c =
    let s = c.args.s.now in
    let i = c.loop-i.invariant in
    let e : c.loop-i.i ≡ length s = omega arith in
    rw (i.place, sym e) (puts_as (take_all c.loop-i.i s (omega arith)) i.put)
