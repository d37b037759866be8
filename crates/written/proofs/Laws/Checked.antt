-- How a call begins: both trees are accepted and it goes on, or one is refused. Assumes nothing.
use Rattle.std.specs.Prelude.{◌≡◌, refl, ℕ, zero, suc}
use Rattle.std.proofs.Common.{subst}
use Rattle.written.specs.LentTree.{Tree}
use Rattle.written.specs.Check.{refusal}
use Rattle.written.specs.Boxes.{Trees}
use Rattle.written.specs.Answers.{checked, left_refusal, right_refusal, Accepts}
use Rattle.written.specs.Rules.{FirstBroken}
use Rattle.written.specs.Calls.{TreeRefused, left_broken, right_broken}
use Rattle.written.proofs.Checked.{refusal_is_first, first_is_one}

-- the computed number and the first rule broken are one
is_first : (K : ℕ) (t : Tree) {n : ℕ} → FirstBroken K t n → refusal K t ≡ n
is_first K t f = first_is_one K t (refusal_is_first K t) f

first_at : (K : ℕ) (t : Tree) {n : ℕ} → refusal K t ≡ n → FirstBroken K t n
first_at K t e = subst (FirstBroken K t) e (refusal_is_first K t)

module _ (j : Trees) {X : Type 0} (refuse : ℕ → ℕ → X) (goes_on : X) where
  abbrev begun : X
  begun = checked refuse (left_refusal j) (right_refusal j) goes_on

  pub on_refused : {n s : ℕ} → TreeRefused j n s → begun ≡ refuse n s
  on_refused (left_broken f) = rw (is_first j.axes j.left f) refl
  on_refused (right_broken k f) = rw (is_first j.axes j.left k, is_first j.axes j.right f) refl

  pub on_accepted : Accepts j → begun ≡ goes_on
  on_accepted ok = rw (ok.0, ok.1) refl

  -- so what holds in both cases holds of the call
  pub by_trees : (P : X → Type 0) → ((n s : ℕ) → TreeRefused j n s → P (refuse n s)) → (Accepts j → P goes_on) → P begun
  by_trees P of_refusal of-rest = go (left_refusal j) refl (right_refusal j) refl
    where
      go : (l : ℕ) → left_refusal j ≡ l → (r : ℕ) → right_refusal j ≡ r → P (checked refuse l r goes_on)
      go zero e zero f = of-rest (e, f)
      go zero e (suc n) f = of_refusal (suc n) 1 (right_broken (first_at j.axes j.left e) (first_at j.axes j.right f))
      go (suc n) e r f = of_refusal (suc n) 0 (left_broken (first_at j.axes j.left e))
