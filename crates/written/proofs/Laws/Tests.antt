-- What a test that passed or failed says. Assumes nothing.
use Rattle.written.proofs.Examples  -- no law is checked before the examples
use Rattle.std.specs.Prelude.{◌≡◌, refl, Bool, true, false, not, ◌&&◌, ◌||◌, ◌⊎◌, ◌↔◌, ℕ, zero, suc, ◌≤◌, ◌<◌, T, leb, eqb}
use Rattle.std.proofs.Common.{sym, ◌∙◌, subst, true≢false, inl, inr, arith, leb→le, le→leb, eqb→eq}
use Rattle.std.proofs.Math.Dec.{eqb_refl}

-- ---- truth

pub gave : {t : Bool} → t ≡ true → T t
gave e = subst T (sym e) tt

pub T_true : (t : Bool) → T t → t ≡ true
T_true true h = refl
T_true false h = absurd h

pub denies : (t : Bool) → (T t → ⊥) → t ≡ false
denies true h = absurd (h tt)
denies false h = refl

pub fails : (t : Bool) → (t ≡ true → ⊥) → t ≡ false
fails true h = absurd (h refl)
fails false h = refl

-- a call's answer r, tested by `!`, where it equals a definition's v
pub refused : {r v : Bool} → r ≡ v → not r ≡ true → v ≡ false
refused {r = true} e h = absurd (true≢false (sym h))
refused {r = false} e h = sym e

pub granted : {r v : Bool} → r ≡ v → not r ≡ false → v ≡ true
granted {r = true} e h = sym e
granted {r = false} e h = absurd (true≢false h)

pub not_both : {t : Bool} → t ≡ true → t ≡ false → ⊥
not_both e f = true≢false (sym e ∙ f)

pub not-true : (t : Bool) → not t ≡ true → t ≡ false
not-true true e = sym e
not-true false e = refl

-- ---- and, or

pub both : (a b : Bool) → (a && b) ≡ true ↔ ((a ≡ true) × (b ≡ true))
both true b = (λ e. (refl, e), λ h. h.1)
both false b = (λ e. absurd (true≢false (sym e)), λ h. h.0)

pub either : (a b : Bool) → (a || b) ≡ true → (a ≡ true) ⊎ (b ≡ true)
either true b e = inl refl
either false b e = inr e

pub neither : (a b : Bool) → (a || b) ≡ false → (a ≡ false) × (b ≡ false)
neither true b e = absurd (true≢false e)
neither false b e = (refl, e)

pub three : (a b c : Bool) → (a && b && c) ≡ true ↔ ((a ≡ true) × (b ≡ true) × (c ≡ true))
three true b c = (λ e. let h = (both b c).0 e in (refl, h.0, h.1), λ h. (both b c).1 (h.1, h.2))
three false b c = (λ e. absurd (true≢false (sym e)), λ h. h.0)

-- ---- numbers

pub at_most : (m n : ℕ) → (leb m n ≡ true) ↔ (m ≤ n)
at_most m n = (λ e. leb→le m n (gave e), λ h. T_true (leb m n) (le→leb m n h))

pub exceeds : (m n : ℕ) → n < m → leb m n ≡ false
exceeds m n h = denies (leb m n) (λ (g : T (leb m n)). omega (arith, leb→le m n g))

pub equal : (m n : ℕ) → (eqb m n ≡ true) ↔ (m ≡ n)
equal m n = (λ e. eqb→eq m n (gave e), λ h. T_true (eqb m n) (subst (λ (k : ℕ). T (eqb m k)) h (eqb_refl m)))

pub not_zero : (n : ℕ) → eqb n 0 ≡ false → 0 < n
not_zero zero e = absurd (true≢false e)
not_zero (suc n) e = omega arith
