-- Stretches of places, and a list for each pair of places of two stretches: all-against-all.
-- Definitions alone. Assumes nothing.
use Rattle.std.specs.Prelude.{List, [], ◌++◌, Bool, ◌&&◌, cond, ℕ, zero, suc, ◌+◌, ◌≤◌, ◌<◌, leb, ltb}

-- the `size` places from the place `from` on
pub record Part : Type 0 where
  pub from : ℕ
  pub size : ℕ

-- the place p is in the stretch
pub record In (p : ℕ) (w : Part) : Type 0 where
  pub above : w.from ≤ p
  pub below : p < w.from + w.size

-- the same as a test, and as a number: 1 where it is, 0 where it is not
abbrev pub inside : ℕ → Part → Bool
inside p w = leb w.from p && ltb p (w.from + w.size)

unfoldable pub ind : ℕ → Part → ℕ
ind p w = cond (inside p w) 1 0

module _ {X : Type 0} where
  -- the lists g a, g (a + 1), .. of n places, one after the other
  abbrev pub over : (ℕ → List X) → ℕ → ℕ → List X
  over g a zero = []
  over g a (suc n) = g a ++ over g (suc a) n

  -- the lists of all pairs of places: left places in order, for each the right places in order
  abbrev pub cross : (ℕ → ℕ → List X) → Part → Part → List X
  cross f l r = over (λ p. over (f p) r.from r.size) l.from l.size
