-- What a reader has lost where a read failed: some bytes, fewer than there was room for, and they stand in front of the buffer. Assumes nothing.
use Rattle.std.specs.Prelude.{ℕ, ◌<◌, List, length, take}
use Rattle.std.specs.Io.KnownBytes.{Consumes}
use Rattle.std.specs.declared.option.Option.{Option}

abbrev pub LosesFront : Option (List ℕ) → Option (List ℕ) → List ℕ → Type 0
LosesFront old new buf = (k : ℕ) × (k < length buf) × Consumes old new (take k buf)
