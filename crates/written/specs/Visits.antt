-- A walk's visits as a tree: what one visit does, the walk that follows from it, and the folds by which all else is read off the one tree.
-- Definitions alone. Assumes nothing.
use Rattle.std.specs.Prelude.{List, ◌++◌, ℕ, zero, suc, ◌+◌, ◌*◌, max}

-- how a visit ends that does not go on: its points are measured, ruled out, or taken whole
pub data Fate : Type 0 where
  measured ruled whole : Fate

-- what one visit does: it ends, it goes on with the near half alone, or with the near half and the far half
pub data Step (S : Type 0) : Type 0 where
  ends : Fate → Step S
  goes : S → Step S
  forks : S → S → Step S

-- The visits from a node pair on. Near half and far half stand in this order, whichever is visited first.
pub data Run (S : Type 0) : Type 0 where
  stop : S → Fate → Run S
  one : S → Run S → Run S
  two : S → Run S → Run S → Run S

-- ---- walks

module _ {S : Type 0} (step : S → Step S) where
  -- the visits from s on, x being what the first does; the number is the levels left, and where none is left no visit goes on
  unfoldable pub runs : ℕ → S → Step S → Run S
  runs zero s (ends k) = stop s k
  runs zero s (goes t) = stop s measured
  runs zero s (forks t u) = stop s measured
  runs (suc d) s (ends k) = stop s k
  runs (suc d) s (goes t) = one s (runs d t (step t))
  runs (suc d) s (forks t u) = two s (runs d t (step t)) (runs d u (step u))

  abbrev pub run : ℕ → S → Run S
  run d s = runs d s (step s)

-- a node pair, with the answers held when it was visited
pub record Seen (C S : Type 0) : Type 0 where
  pub held : C
  pub pair : S

abbrev pub seen : {C S : Type 0} → C → S → Seen C S
seen c s = record { held = c; pair = s }

-- A walk that carries answers along: each visit sees the answers that the visits before it left. Here the far half is visited first.
module _ {C S : Type 0} (step : C → S → Step S) (act : C → S → C) where
  -- the answers after a visit that ends
  abbrev pub after : Fate → C → S → C
  after measured c s = act c s
  after ruled c s = c
  after whole c s = c

  -- the visits, and the answers at their end
  unfoldable pub carries : ℕ → C → S → Step S → Run (Seen C S) × C
  carries zero c s (ends k) = (stop (seen c s) k, after k c s)
  carries zero c s (goes t) = (stop (seen c s) measured, act c s)
  carries zero c s (forks t u) = (stop (seen c s) measured, act c s)
  carries (suc d) c s (ends k) = (stop (seen c s) k, after k c s)
  carries (suc d) c s (goes t) = let x = carries d c t (step c t) in (one (seen c s) x.0, x.1)
  carries (suc d) c s (forks t u) =
      let y = carries d c u (step c u) in
      let x = carries d y.1 t (step y.1 t) in
      (two (seen c s) x.0 y.0, x.1)

  abbrev pub carry : ℕ → C → S → Run (Seen C S) × C
  carry d c s = carries d c s (step c s)

-- ---- folds

-- 1 where the fate is the one asked for
abbrev pub is : Fate → Fate → ℕ
is measured measured = 1
is measured ruled = 0
is measured whole = 0
is ruled measured = 0
is ruled ruled = 1
is ruled whole = 0
is whole measured = 0
is whole ruled = 0
is whole whole = 1

module _ {S : Type 0} where
  unfoldable pub visits : Run S → ℕ
  visits (stop s k) = 1
  visits (one s r) = suc (visits r)
  visits (two s r t) = suc (visits r + visits t)

  -- The most that wait, w waiting at the first visit: while the near half is visited the far half waits, and then the box side to put back.
  unfoldable pub deepest : ℕ → Run S → ℕ
  deepest w (stop s k) = w
  deepest w (one s r) = deepest w r
  deepest w (two s r t) = max (deepest (suc w) r) (deepest (suc w) t)

  -- The same where the far half is visited first and every node pair waits before it is taken, the root too: w others wait beside the first.
  unfoldable pub deepest_far : ℕ → Run S → ℕ
  deepest_far w (stop s k) = suc w
  deepest_far w (one s r) = deepest_far w r
  deepest_far w (two s r t) = max (deepest_far w r) (deepest_far (suc w) t)

  -- a number for each visit that ends, added up
  unfoldable pub sum : (S → Fate → ℕ) → Run S → ℕ
  sum g (stop s k) = g s k
  sum g (one s r) = sum g r
  sum g (two s r t) = sum g r + sum g t

  -- the numbers of the visits that end with the fate k, added up
  abbrev pub total : (S → ℕ) → Fate → Run S → ℕ
  total size k r = sum (λ s j. is k j * size s) r

  -- a list for each visit that ends: near half, then far half
  unfoldable pub gather : {X : Type 0} → (S → Fate → List X) → Run S → List X
  gather g (stop s k) = g s k
  gather g (one s r) = gather g r
  gather g (two s r t) = gather g r ++ gather g t

  -- P holds of each visit that ends
  abbrev pub Ends : (S → Fate → Type 0) → Run S → Type 0
  Ends P (stop s k) = P s k
  Ends P (one s r) = Ends P r
  Ends P (two s r t) = Ends P r × Ends P t
