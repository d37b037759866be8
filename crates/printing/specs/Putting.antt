-- Texts put one after the other, and what stands in a buffer whose start they were put at. Assumes nothing.
use Rattle.std.specs.Prelude.{◌≡◌, refl, List, [], ◌∷◌, ◌++◌, ℕ, suc, ◌+◌, length, set}
use Rattle.std.proofs.Common.{sym, ap, subst, ◌∙◌, arith, length-append}
use Rattle.std.proofs.lemmas.List.Edits.{sets}
use Rattle.std.proofs.Math.Seq.{length-sets}
use Rattle.written.specs.Answers.{stored}
use Rattle.written.proofs.Laws.Rooms.{sets_stored}
use Rattle.printing.specs.Puts.{Puts}

pub puts_nothing : {b : List ℕ} {at : ℕ} → Puts b at [] b at
puts_nothing {b} {at} = record { stored = refl; counted = omega arith }

pub puts_one : {b c : List ℕ} {at x : ℕ} → c ≡ set b at x → Puts b at (x ∷ []) c (at + 1)
puts_one e = record { stored = e; counted = refl }

sets_append : (b : List ℕ) (at : ℕ) (t u : List ℕ) → sets b at (t ++ u) ≡ sets (sets b at t) (at + length t) u
sets_append b at [] u = ap (λ (n : ℕ). sets b n u) (omega arith)
sets_append b at (x ∷ t) u =
    let e : suc at + length t ≡ at + suc (length t) = omega arith in
    sets_append (set b at x) (suc at) t u ∙ ap (λ (n : ℕ). sets (sets (set b at x) (suc at) t) n u) e

-- texts are written `t ++ u ++ ..`, which nests to the left, and so do the calls of this law
pub puts_then : {b c d : List ℕ} {at m n : ℕ} {t u : List ℕ} → Puts b at t c m → Puts c m u d n → Puts b at (t ++ u) d n
puts_then {b} {c} {d} {at} {m} {n} {t} {u} p q =
    record {
      stored = q.stored ∙ ap (λ (k : ℕ). sets c k u) p.counted ∙ ap (λ (l : List ℕ). sets l (at + length t) u) p.stored ∙ sym (sets_append b at t u);
      counted = omega (arith, p.counted, q.counted, length-append t u);
    }

-- the same text, written otherwise
pub puts_as : {b c t u : List ℕ} {at n : ℕ} → t ≡ u → Puts b at t c n → Puts b at u c n
puts_as {b} {c} {t} {u} {at} {n} e p = subst (λ (x : List ℕ). Puts b at x c n) e p

-- the same buffer, known otherwise
pub puts_in : {b c d t : List ℕ} {at n : ℕ} → d ≡ c → Puts b at t c n → Puts b at t d n
puts_in {b} {c} {d} {t} {at} {n} e p = subst (λ (x : List ℕ). Puts b at t x n) (sym e) p

pub puts_length : {b c : List ℕ} {at n : ℕ} {t : List ℕ} → Puts b at t c n → length c ≡ length b
puts_length {b} {c} {at} {n} {t} p = ap length p.stored ∙ length-sets b at t

-- ---- from the start

pub puts_stored : {b c : List ℕ} {t : List ℕ} {n : ℕ} → Puts b 0 t c n → c ≡ stored t b
puts_stored {b} {c} {t} p = p.stored ∙ sets_stored t b
