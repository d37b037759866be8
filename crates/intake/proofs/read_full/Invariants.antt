-- What is read so far fits, stands in front and is what the reader has lost; each read adds to it. Assumes nothing.
use Rattle.std.proofs.Common.{◌-◌, ◌^◌, ◌≤◌, ◌<◌, length, take}
use Rattle.std.specs.Io.KnownBytes.{Consumes}
use Rattle.intake.proofs.read_full.Given as goal

abbrev pub invariant-loop-done : goal.invariant-loop-done
invariant-loop-done g l = record {
  in_bounds : l.done ≤ length l.out;
  few : length l.out < 2 ^ 64;
  bytes : Consumes (g.R.Read.remaining l.initial.from) (g.R.Read.remaining l.from) (take l.done l.out);
}

abbrev pub decreases-loop-done : goal.decreases-loop-done
decreases-loop-done g l = length l.out - l.done
