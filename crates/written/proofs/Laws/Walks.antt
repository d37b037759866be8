-- A walk that is given by what one visit does: from the law of one visit follow the laws of the walk. Assumes nothing.
use Rattle.std.specs.Prelude.{◌≡◌, List}
use Rattle.std.proofs.Math.Path.{refl}
use Prim.Native.Nat.{ℕ, zero, suc, ◌≤◌}
use native.Mathlib.Omega.{arith}
use Rattle.written.specs.Places.{Part}
use Rattle.written.specs.Visits.{Fate, measured, Step, ends, goes, forks, runs, run, Ends}
use Rattle.written.proofs.Laws.Visits.{at, height}
use Rattle.written.proofs.Laws.Covered.{Cut, Tiled, Fair}

-- where the step ends, it ends with a fate that Q allows
abbrev pub Allows : {S : Type 0} → (Fate → Type 0) → Step S → Type 0
Allows Q (ends k) = Q k
Allows Q (goes t) = Unit {0}
Allows Q (forks t u) = Unit {0}

-- what is to hold of a visit that goes on, with d levels left: its halves hold all its pairs of places, and are good for one level less
module _ {S : Type 0} (left right : S → Part) (Good : ℕ → S → Type 0) where
  abbrev pub Onward : ℕ → S → Step S → Type 0
  Onward d s (ends k) = ⊥
  Onward zero s (goes t) = ⊥
  Onward zero s (forks t u) = ⊥
  Onward (suc d) s (goes t) = Good d t × (left t ≡ left s) × (right t ≡ right s)
  Onward (suc d) s (forks t u) = Good d t × Good d u × Cut left right s t u

module _ {S : Type 0} (step : S → Step S) where
  pub at_runs : (d : ℕ) (s : S) (x : Step S) → at (runs step d s x) ≡ s
  unfolding runs
  at_runs zero s (ends k) = refl
  at_runs zero s (goes t) = refl
  at_runs zero s (forks t u) = refl
  at_runs (suc d) s (ends k) = refl
  at_runs (suc d) s (goes t) = refl
  at_runs (suc d) s (forks t u) = refl

  pub height_runs : (d : ℕ) (s : S) (x : Step S) → height (runs step d s x) ≤ d
  unfolding runs height
  height_runs zero s (ends k) = omega arith
  height_runs zero s (goes t) = omega arith
  height_runs zero s (forks t u) = omega arith
  height_runs (suc d) s (ends k) = omega arith
  height_runs (suc d) s (goes t) = omega (arith, height_runs d t (step t))
  height_runs (suc d) s (forks t u) = omega (arith, height_runs d t (step t), height_runs d u (step u))

  fates : (Q : Fate → Type 0) → Q measured → ((s : S) → Allows Q (step s)) → (d : ℕ) (s : S) (x : Step S) → Allows Q x → Ends (λ s k. Q k) (runs step d s x)
  unfolding runs
  fates Q m h zero s (ends k) a = a
  fates Q m h zero s (goes t) a = m
  fates Q m h zero s (forks t u) a = m
  fates Q m h (suc d) s (ends k) a = a
  fates Q m h (suc d) s (goes t) a = fates Q m h d t (step t) (h t)
  fates Q m h (suc d) s (forks t u) a = (fates Q m h d t (step t) (h t), fates Q m h d u (step u) (h u))

  -- a fate that no step has but measured is no visit's
  pub run_fates : (Q : Fate → Type 0) → Q measured → ((s : S) → Allows Q (step s)) → (d : ℕ) (s : S) → Ends (λ s k. Q k) (run step d s)
  run_fates Q m h d s = fates Q m h d s (step s) (h s)

  module _ (left right : S → Part) {X : Type 0} (f : ℕ → ℕ → List X) (Good : ℕ → S → Type 0) where
    -- what is to hold of one visit with d levels left
    abbrev pub Law : ℕ → S → Step S → Type 0
    Law d s (ends k) = Fair left right f s k
    Law d s (goes t) = Onward left right Good d s (goes t)
    Law d s (forks t u) = Onward left right Good d s (forks t u)

    pub law_onward : (d : ℕ) (s : S) (x : Step S) → Onward left right Good d s x → Law d s x
    law_onward d s (ends k) h = absurd h
    law_onward d s (goes t) h = h
    law_onward d s (forks t u) h = h

    module _ (law : (d : ℕ) (s : S) → Good d s → Law d s (step s)) where
      tiled : (d : ℕ) (s : S) (x : Step S) → Law d s x → Tiled left right (runs step d s x)
      unfolding runs
      tiled zero s (ends k) h = tt
      tiled zero s (goes t) h = tt
      tiled zero s (forks t u) h = tt
      tiled (suc d) s (ends k) h = tt
      tiled (suc d) s (goes t) h = rw (at_runs d t (step t)) (h.1, h.2, tiled d t (step t) (law d t h.0))
      tiled (suc d) s (forks t u) h =
          rw (at_runs d t (step t), at_runs d u (step u)) (h.2, tiled d t (step t) (law d t h.0), tiled d u (step u) (law d u h.1))

      sound : (d : ℕ) (s : S) (x : Step S) → Law d s x → Ends (Fair left right f) (runs step d s x)
      unfolding runs
      sound zero s (ends k) h = h
      sound zero s (goes t) h = tt
      sound zero s (forks t u) h = tt
      sound (suc d) s (ends k) h = h
      sound (suc d) s (goes t) h = sound d t (step t) (law d t h.0)
      sound (suc d) s (forks t u) h = (sound d t (step t) (law d t h.0), sound d u (step u) (law d u h.1))

      pub run_tiled : (d : ℕ) (s : S) → Good d s → Tiled left right (run step d s)
      run_tiled d s g = tiled d s (step s) (law d s g)

      pub run_sound : (d : ℕ) (s : S) → Good d s → Ends (Fair left right f) (run step d s)
      run_sound d s g = sound d s (step s) (law d s g)
