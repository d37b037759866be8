-- What a function that prints does: it stores a text from a place on, as far as there is room, and answers the place after it. Assumes nothing.
use Rattle.std.specs.Prelude.{◌≡◌, List, ℕ, ◌+◌, length}
use Rattle.std.proofs.lemmas.List.Edits.{sets}

pub record Puts (before : List ℕ) (at : ℕ) (t : List ℕ) (after : List ℕ) (next : ℕ) : Type 0 where
  pub stored : after ≡ sets before at t
  pub counted : next ≡ at + length t
