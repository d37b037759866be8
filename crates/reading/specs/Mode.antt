-- Document 01, "The job program": the number of each mode. Assumes nothing.
use Rattle.std.specs.Prelude.{◌≡◌, false, leb, ℕ, Result, MatchResult}
use Rattle.metric.specs.declared.within.Edge.TheVariants.{UpTo, Under}
use Rattle.reading.specs.declared.bad_job.BadJob.{BadJob}
use Rattle.reading.specs.declared.bad_job.BadJob.TheVariants.{Mode as NoMode}
use Rattle.reading.specs.declared.mode.Mode.{Mode}
use Rattle.reading.specs.declared.mode.Mode.TheVariants.{Pairs, Counts, Nearest}

abbrev pub mode_number : Mode → ℕ
mode_number (Pairs UpTo) = 0
mode_number (Pairs Under) = 1
mode_number (Counts UpTo) = 2
mode_number (Counts Under) = 3
mode_number Nearest = 4

-- the mode of a byte; a byte that no mode has is told as one
abbrev pub Decodes : ℕ → Result Mode BadJob → Type 0
Decodes byte r = MatchResult r (λ m. mode_number m ≡ byte) (λ e. (e ≡ NoMode) × (leb byte 4 ≡ false))
