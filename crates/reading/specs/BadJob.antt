-- The number that each reason is told by: document 01, "The job program". None is 0. Assumes nothing.
use Rattle.std.specs.Prelude.{ℕ, ◌<◌}
use Rattle.std.proofs.Common.{arith}
use Rattle.reading.specs.declared.bad_job.BadJob.{BadJob}
use Rattle.reading.specs.declared.bad_job.BadJob.TheVariants.{Size, Mark, Version, Mode, Length, Axes}

abbrev pub number_of : BadJob → ℕ
number_of Size = 21
number_of Mark = 22
number_of Version = 23
number_of Mode = 24
number_of Length = 25
number_of Axes = 1

pub some_number : (e : BadJob) → 0 < number_of e
some_number Size = omega arith
some_number Mark = omega arith
some_number Version = omega arith
some_number Mode = omega arith
some_number Length = omega arith
some_number Axes = omega arith
