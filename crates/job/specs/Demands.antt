-- What `job::run` promises its callers: one possible answer and one possible content of the buffer, the whole text where there is room, and nothing beyond it. Assumes nothing.
use Rattle.std.specs.Prelude.{◌≡◌, refl, List, ℕ, ◌≤◌, length, take}
use Rattle.std.proofs.Common.{sym, ap, ◌∙◌, arith, take_all, drop_at}
use Rattle.std.proofs.Math.Path.{subst}
use Rattle.std.proofs.Math.ListN.{drop}
use Rattle.written.specs.Answers.{stored}
use Rattle.printing.specs.Columns.{take_stored}
use Rattle.job.specs.Printed.{printed}
use Rattle.job.specs.Shown.{Ran}

module _ (s before : List ℕ) {after : List ℕ} {n : ℕ} (ran : Ran s before after n) where
  pub run_unique : {after' : List ℕ} {n' : ℕ} → Ran s before after' n' → (after ≡ after') × (n ≡ n')
  run_unique r = (ran.0 ∙ sym r.0, ran.1 ∙ sym r.1)

  -- no text is longer than 65,536 bytes, so a buffer of as many holds it whole
  fits : 65536 ≤ length before → length (printed s) ≤ length before
  fits h = omega (arith, h, ran.1, ran.2)

  pub whole_text : 65536 ≤ length before → take n after ≡ printed s
  whole_text h =
      subst (λ (k : ℕ). take k after ≡ printed s) (sym ran.1) (ap (take (length (printed s))) ran.0 ∙ take_stored (printed s) before (fits h))

  pub rest_untouched : 65536 ≤ length before → drop n after ≡ drop n before
  unfolding stored
  rest_untouched h =
      subst (λ (k : ℕ). drop k after ≡ drop k before) (sym ran.1)
      (ap (drop (length (printed s))) ran.0 ∙ rw (take_all (length before) (printed s) (fits h)) (drop_at (printed s) (drop (length (printed s)) before) (length (printed s)) refl))
