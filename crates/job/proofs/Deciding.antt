-- Which text a job prints, by what was found of its header and its lengths. Assumes nothing.
use mathlib.Core.Path.{◌≡◌, refl, sym, ap, subst, ◌∙◌}
use mathlib.Core.List.{List}
use mathlib.Core.Bool.{Bool, true, false}
use Prim.Native.Nat.{ℕ, zero, suc, ◌≤◌, ◌<◌}
use native.Mathlib.Omega.{arith}
use borrow.Author.Tests.{eq-eqb}
use lib.ListN.{length}
use lib.Dec.{leb, eqb}
use Rattle.written.specs.Answers.{stored}
use Rattle.written.proofs.Laws.Tests.{fails, not_both, both, three, at_most, equal}
use Rattle.reading.specs.Trees.{tree_end, tree_fits}
use Rattle.reading.specs.Lays.{Lays}
use Rattle.reading.specs.BadJob.{number_of, some_number}
use Rattle.reading.specs.declared.bad_job.BadJob.{BadJob}
use Rattle.reading.specs.Header.{axes, mode, radius, trees, right_at, size_ok, length_ok, unless, header_refusal, then_length, job_refusal}
use Rattle.reading.specs.declared.layout.Layout.{Layout}
use Rattle.printing.specs.Puts.{Puts}
use Rattle.printing.specs.Putting.{puts_stored}
use Rattle.printing.specs.Text.{refused_line}
use Rattle.job.specs.Printed.{join_text, printed_by, printed}
use Rattle.job.specs.Shown.{Ran}

module _ (s : List ℕ) where
  -- ---- an accepted header's size
  size_by : (ok : Bool) (others : ℕ) → unless ok 21 others ≡ 0 → ok ≡ true
  size_by true others e = refl
  size_by false others e = absurd (omega arith)

  size_kept : header_refusal s ≡ 0 → size_ok s ≡ true
  unfolding header_refusal
  size_kept e = size_by (size_ok s) _ e

  pub sized : header_refusal s ≡ 0 → (16 ≤ length s) × (length s ≤ 16384)
  sized e =
      let b = (both (leb 16 (length s)) (leb (length s) 16384)).0 (size_kept e) in
      ((at_most 16 (length s)).0 b.0, (at_most (length s) 16384).0 b.1)

  -- ---- the number
  by_header : (n : ℕ) → 0 < n → n ≡ then_length n s
  by_header zero k = absurd (omega arith)
  by_header (suc n) k = refl

  pub header_refused : (e : BadJob) → number_of e ≡ header_refusal s → number_of e ≡ job_refusal s
  unfolding job_refusal
  header_refused e told = by_header (number_of e) (some_number e) ∙ ap (λ (n : ℕ). then_length n s) told

  by_length : (n : ℕ) → n ≡ 0 → (b : Bool) → length_ok s ≡ b → unless b 25 0 ≡ then_length n s
  by_length n e b f = rw (e, f) refl

  pub length_refused : header_refusal s ≡ 0 → length_ok s ≡ false → 25 ≡ job_refusal s
  unfolding job_refusal
  length_refused e f = by_length (header_refusal s) e false f

  pub accepted : header_refusal s ≡ 0 → length_ok s ≡ true → job_refusal s ≡ 0
  unfolding job_refusal
  accepted e f = sym (by_length (header_refusal s) e true f)

  -- ---- the text
  by_number : (n m : ℕ) → 0 < n → n ≡ m → refused_line n 0 ≡ printed_by m s
  by_number n zero k e = absurd (omega arith)
  by_number n (suc m) k e = ap (λ (x : ℕ). refused_line x 0) e

  pub refused_printed : (e : BadJob) → number_of e ≡ job_refusal s → refused_line (number_of e) 0 ≡ printed s
  refused_printed e = by_number (number_of e) (job_refusal s) (some_number e)

  pub joined_printed : job_refusal s ≡ 0 → join_text (trees s) (mode s) (radius s) ≡ printed s
  joined_printed e = ap (λ (n : ℕ). printed_by n s) (sym e)

  -- ---- the lengths
  abbrev parts : length_ok s ≡ true → (tree_fits s 16 (axes s) ≡ true) × (tree_fits s (right_at s) (axes s) ≡ true) × (eqb (tree_end s (right_at s) (axes s)) (length s) ≡ true)
  parts t = (three _ _ _).0 t

  module _ {K : ℕ} (k : K ≡ axes s) where
    pub no_left : tree_fits s 16 K ≡ false → length_ok s ≡ false
    no_left e = fails (length_ok s) (λ t. not_both (parts t).0 (subst (λ (x : ℕ). tree_fits s 16 x ≡ false) k e))

    module _ {l : Layout} (left : Lays K s 16 l) where
      pub left_lays : Lays (axes s) s 16 l
      left_lays = subst (λ (x : ℕ). Lays x s 16 l) k left

      pub no_right : tree_fits s l.end K ≡ false → length_ok s ≡ false
      no_right e =
          let f = subst (λ (x : ℕ). tree_fits s l.end x ≡ false) k e in
          fails (length_ok s) (λ t. not_both (parts t).1 (subst (λ (p : ℕ). tree_fits s p (axes s) ≡ false) left_lays.end_lies f))

      module _ {r : Layout} (right : Lays K s l.end r) where
        pub right_lays : Lays (axes s) s (right_at s) r
        right_lays = subst (λ (p : ℕ). Lays (axes s) s p r) left_lays.end_lies (subst (λ (x : ℕ). Lays x s l.end r) k right)

        pub another_end : (r.end ≡ length s → ⊥) → length_ok s ≡ false
        another_end n = fails (length_ok s) (λ t. n (right_lays.end_lies ∙ (equal _ _).0 (parts t).2))

        pub same_end : r.end ≡ length s → length_ok s ≡ true
        same_end e = (three _ _ _).1 (left_lays.fits, right_lays.fits, eq-eqb _ _ (sym right_lays.end_lies ∙ e))

  -- ---- what is left in the buffer
  pub finished : {before after : List ℕ} {t : List ℕ} {n : ℕ} → Puts before 0 t after n → t ≡ printed s → n ≤ 65536 → Ran s before after n
  finished {before} {after} {t} {n} p e h = (puts_stored p ∙ ap (λ (x : List ℕ). stored x before) e, omega (arith, p.counted, ap length e), h)
