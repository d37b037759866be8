-- Bounds on a walk's visits and on what waits, by how far below its first visit it goes; and laws of the folds. Assumes nothing.
use Rattle.std.specs.Prelude.{◌≡◌, length}
use Rattle.std.proofs.Common.{sym, length-append}
use mathlib.Core.List.{List, Permᴰ}
use Prim.Native.Nat.{ℕ, suc, ◌+◌, ◌-◌, ◌^◌, ◌≤◌, max}
use native.Mathlib.Omega.{arith}
use Rattle.std.proofs.Math.Pow.{pow_pos, pow_mono}
use Rattle.written.specs.Visits.{Fate, Run, stop, one, two, is, visits, deepest, deepest_far, sum, total, gather, Ends}
use Rattle.written.proofs.Laws.Lists.{perm_append}

module _ {S : Type 0} where
  -- the first visit
  abbrev pub at : Run S → S
  at (stop s k) = s
  at (one s r) = s
  at (two s r t) = s

  -- how far below its first visit a walk goes
  unfoldable pub height : Run S → ℕ
  height (stop s k) = 0
  height (one s r) = suc (height r)
  height (two s r t) = suc (max (height r) (height t))

  -- ---- bounds

  visits_height : (r : Run S) → suc (visits r) ≤ 2 ^ suc (height r)
  unfolding visits height
  visits_height (stop s k) = omega arith
  visits_height (one s r) = omega (arith, visits_height r, pow_pos (height r))
  visits_height (two s r t) =
      let h = max (height r) (height t) in
      omega (arith, visits_height r, visits_height t, pow_mono {i = suc (height r)} {j = suc h} (omega arith), pow_mono {i = suc (height t)} {j = suc h} (omega arith))

  pub visits_bound : (d : ℕ) (r : Run S) → height r ≤ d → visits r ≤ 2 ^ (d + 1) - 1
  visits_bound d r h = omega (arith, visits_height r, pow_mono {i = suc (height r)} {j = d + 1} (omega arith))

  pub deepest_bound : (w : ℕ) (r : Run S) → deepest w r ≤ w + height r
  unfolding deepest height
  deepest_bound w (stop s k) = omega arith
  deepest_bound w (one s r) = omega (arith, deepest_bound w r)
  deepest_bound w (two s r t) = omega (arith, deepest_bound (suc w) r, deepest_bound (suc w) t)

  pub deepest_far_bound : (w : ℕ) (r : Run S) → deepest_far w r ≤ suc (w + height r)
  unfolding deepest_far height
  deepest_far_bound w (stop s k) = omega arith
  deepest_far_bound w (one s r) = omega (arith, deepest_far_bound w r)
  deepest_far_bound w (two s r t) = omega (arith, deepest_far_bound w r, deepest_far_bound (suc w) t)

  -- ---- folds

  pub gather_perm : {X : Type 0} (g h : S → Fate → List X) (r : Run S) → Ends (λ s k. Permᴰ (g s k) (h s k)) r → Permᴰ (gather g r) (gather h r)
  unfolding gather
  gather_perm g h (stop s k) e = e
  gather_perm g h (one s r) e = gather_perm g h r e
  gather_perm g h (two s r t) e = perm_append (gather_perm g h r e.0) (gather_perm g h t e.1)

  pub sum_gather : {X : Type 0} (n : S → Fate → ℕ) (g : S → Fate → List X) (r : Run S) → Ends (λ s k. n s k ≡ length (g s k)) r → sum n r ≡ length (gather g r)
  unfolding sum gather
  sum_gather n g (stop s k) e = e
  sum_gather n g (one s r) e = sum_gather n g r e
  sum_gather n g (two s r t) e = rw (sum_gather n g r e.0, sum_gather n g t e.1) (sym (length-append (gather g r) (gather g t)))

  -- where no visit ends with the fate j, the numbers of that fate add up to 0
  pub total_none : (j : Fate) (g : S → ℕ) (r : Run S) → Ends (λ s k. is j k ≡ 0) r → total g j r ≡ 0
  unfolding sum
  total_none j g (stop s k) e = rw e (omega arith)
  total_none j g (one s r) e = total_none j g r e
  total_none j g (two s r t) e = omega (arith, total_none j g r e.0, total_none j g t e.1)

  pub ends_map : {P Q : S → Fate → Type 0} → ((s : S) (k : Fate) → P s k → Q s k) → (r : Run S) → Ends P r → Ends Q r
  ends_map f (stop s k) e = f s k e
  ends_map f (one s r) e = ends_map f r e
  ends_map f (two s r t) e = (ends_map f r e.0, ends_map f t e.1)
