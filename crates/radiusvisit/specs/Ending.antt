-- What the code asks where a visit ends. Assumes nothing.
use Rattle.std.specs.Prelude.{◌≡◌, Bool, true, ◌^◌, ◌≤◌}
use Rattle.written.specs.Visits.{whole}
use Rattle.steps.specs.declared.tally.Tally.{Tally}
use Rattle.radiusvisit.specs.declared.moves.Fate.{Fate}
use Rattle.radiusvisit.specs.Moves.{fate_of}

-- what was counted so far is little enough to add to
pub record Few (t : Tally) : Type 0 where
  pub found_few : t.found ≤ 2 ^ 32
  pub measured_few : t.measured ≤ 2 ^ 32
  pub ruled_few : t.ruled ≤ 2 ^ 32
  pub whole_few : t.whole ≤ 2 ^ 32

-- only a count takes node pairs whole
abbrev pub MayEnd : (counting : Bool) → Fate → Type 0
MayEnd counting fate = fate_of fate ≡ whole → counting ≡ true
