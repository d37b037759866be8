-- The parts of a record follow each other after its first 20 bytes, and the rest of the input follows them. Assumes nothing.
use Rattle.std.specs.Prelude.{◌≡◌, List, ℕ, ◌≤◌, ◌<◌, ◌++◌, length, take}
use Rattle.replay.specs.declared.frame.Frame.{Frame}

pub record Framed (s : List ℕ) (f : Frame) : Type 0 where
  pub parts : s ≡ take 20 s ++ (f.job.now ++ (f.answer.now ++ (f.pairs.now ++ (f.text.now ++ f.rest.now))))
  pub answer : length f.answer.now ≡ 48
  pub head : 20 ≤ length s
  pub taken : length f.rest.now < length s
