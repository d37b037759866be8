-- What no visit of the radius walk changes: what is asked, and which three rooms are lent. Assumes nothing.
use Rattle.std.specs.Prelude.{Bool, ℕ, Float}
use Rattle.written.specs.Boxes.{Edge}

pub record Setting : Type 0 where
  pub edge : Edge
  pub radius : Float
  pub counting : Bool
  pub lefts : ℕ
  pub rights : ℕ
  pub distances : ℕ
