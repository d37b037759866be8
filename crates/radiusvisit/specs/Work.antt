-- What a walk has done: the number found, what is in the rooms, and the totals (document 01, "Totals"). Assumes nothing.
use Rattle.std.specs.Prelude.{List, Bool, true, false, ℕ, ◌+◌, length, Float}
use Rattle.written.specs.Boxes.{Trees, Edge}
use Rattle.written.specs.Visits.{Fate}
use Rattle.written.specs.NodePairs.{NodePair, area}
use Rattle.written.specs.RadiusWalk.{Found, kept, counted, leaf_pair}
use Rattle.written.specs.Totals.{Totals}
use Rattle.rooms.specs.Rooms.{Filling, filling, puts}
use Rattle.steps.specs.declared.tally.Tally.{Tally}
use Rattle.steps.specs.Counted.{totals_held, adding}

pub record Work : Type 0 where
  pub fill : Filling
  pub totals : Totals

abbrev pub work_of : Tally → (lefts rights : List ℕ) → (distances : List Float) → Work
work_of t lefts rights distances = record { fill = filling t.found lefts rights distances; totals = totals_held t }

-- ---- one visit

-- what is found of n pairs of places, `leaf` being those that pass: pairs are counted and stored, for a count they are only counted
abbrev pub finding : (counting : Bool) → Fate → (leaf : List Found) → ℕ → Filling → Filling
finding false k leaf n f = puts f (kept leaf k)
finding true k leaf n f = record { found = f.found + counted (length leaf) n k; rooms = f.rooms }

-- after a visit that ends
abbrev pub after : Trees → Edge → Float → (counting : Bool) → NodePair → Fate → Work → Work
after j edge radius counting s k w = record { fill = finding counting k (leaf_pair j edge radius s) (area j s) w.fill; totals = adding k (area j s) w.totals }
