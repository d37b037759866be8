-- The answer that a record's 48 bytes hold. Assumes nothing.
use Rattle.std.specs.Prelude.{◌≡◌, List, ℕ}
use Rattle.written.specs.Answers.{Answer}
use Rattle.reading.specs.Little.{number32, number64}

pub record Recorded (s : List ℕ) (a : Answer) : Type 0 where
  pub number : a.number ≡ number32 s 0
  pub side : a.side ≡ number32 s 4
  pub found : a.found ≡ number64 s 8
  pub visits : a.totals.visits ≡ number64 s 16
  pub measured : a.totals.measured ≡ number64 s 24
  pub ruled : a.totals.ruled_out ≡ number64 s 32
  pub whole : a.totals.whole ≡ number64 s 40
