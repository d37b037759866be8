-- What no visit of the nearest walk changes: which two rooms are lent. Assumes nothing.
use Rattle.std.specs.Prelude.{ℕ}

pub record Setting : Type 0 where
  pub items : ℕ
  pub distances : ℕ
