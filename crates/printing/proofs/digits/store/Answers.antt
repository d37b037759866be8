use Rattle.std.proofs.Common.{◌≡◌, ℕ, zero, suc, ◌-◌, ◌/◌, ◌%◌, ◌≤◌, ◌<◌, List, [], ◌∷◌, ◌++◌, length, take, drop, refl, sym, ap, subst, ◌∙◌, arith, sub-one, le_of_suc-le-suc, not-suc-le-zero}
use Rattle.std.proofs.Math.ListN.{set}
use Rattle.std.proofs.Math.Seq.{length-take-le, take-set-lt, append_snoc}
use Rattle.printing.specs.Digits.{hex_digit_ascii, last_digits}
use Rattle.printing.proofs.digits.store.Goals as goal

-- after a store at j, the list from j on begins with what was stored
drop_set : (t : List ℕ) (j g : ℕ) → j < length t → drop j (set t j g) ≡ g ∷ drop (suc j) t
drop_set [] j g h = absurd (not-suc-le-zero h)
drop_set (x ∷ xs) zero g h = refl
drop_set (x ∷ xs) (suc j) g h = drop_set xs j g (le_of_suc-le-suc h)

-- a turn moves the last of the digits that are still to write to the front of those that are written
digits_step : (b i k rest g : ℕ) (out : List ℕ) → 0 < i → i ≤ k → k ≤ length out → g ≡ hex_digit_ascii (rest % b)
    → last_digits b (i - 1) (rest / b) ++ drop (i - 1) (take k (set out (i - 1) g)) ≡ last_digits b i rest ++ drop i (take k out)
digits_step b zero k rest g out some h room e = absurd (not-suc-le-zero some)
digits_step b (suc j) k rest g out some h room e =
    let todo = last_digits b j (rest / b) in
    let done = drop (suc j) (take k out) in
    let within : j < length (take k out) = subst (λ (n : ℕ). j < n) (sym (length-take-le k out room)) h in
    ap (λ (m : ℕ). last_digits b m (rest / b) ++ drop m (take k (set out m g))) (sub-one (suc j))
    ∙ ap (λ (l : List ℕ). todo ++ drop j l) (take-set-lt k out j g h)
    ∙ ap (λ (l : List ℕ). todo ++ l) (drop_set (take k out) j g within)
    ∙ ap (λ (x : ℕ). todo ++ x ∷ done) e
    ∙ sym (append_snoc todo (hex_digit_ascii (rest % b)) done)

pub loop-i-preserved : goal.loop-i-preserved
loop-i-preserved c =
    let l = c.loop-i in
    digits_step c.args.base l.i c.args.k l.rest c.ascii.result l.out c.loop-i-test.true (omega arith) (omega arith) c.ascii.ensures ∙ l.invariant
