-- What is stored in a room: one after the other, and by whether all fits. Assumes nothing.
use Rattle.written.proofs.Examples  -- no law is checked before the examples
use Rattle.std.specs.Prelude.{◌≡◌, List, [], ◌∷◌, ◌++◌, map, ℕ, zero, suc, ◌≤◌, take, drop, set}
use Rattle.std.proofs.Math.Path.{refl}
use Rattle.std.proofs.Common.{ap, ◌∙◌, append-nil, arith, drop_of_length-le, take_all}
use Rattle.std.proofs.Math.ListN.{length, length-map}
use Rattle.std.proofs.lemmas.List.Edits.{sets}
use Rattle.written.specs.Answers.{stored}

-- stored one after the other from the first place on
sets_nil : {X : Type 0} (n : ℕ) (l : List X) → sets [] n l ≡ []
sets_nil n [] = refl
sets_nil zero (x ∷ l) = sets_nil 1 l
sets_nil (suc n) (x ∷ l) = sets_nil (suc (suc n)) l

sets_cons : {X : Type 0} (y : X) (ys : List X) (n : ℕ) (l : List X) → sets (y ∷ ys) (suc n) l ≡ y ∷ sets ys n l
sets_cons y ys n [] = refl
sets_cons y ys n (x ∷ l) = sets_cons y (set ys n x) (suc n) l

pub sets_stored : {X : Type 0} (l b : List X) → sets b 0 l ≡ stored l b
unfolding stored
sets_stored [] [] = refl
sets_stored [] (y ∷ b) = refl
sets_stored (x ∷ l) [] = sets_nil 1 l
sets_stored (x ∷ l) (y ∷ b) = sets_cons x b 0 l ∙ ap (◌∷◌ x) (sets_stored l b)

-- ---- by whether all fits

module _ {X Y : Type 0} (g : X → Y) (l : List X) (buffer : List Y) where
  pub stored_all : length l ≤ length buffer → stored (map g l) buffer ≡ map g l ++ drop (length l) buffer
  unfolding stored
  stored_all h = rw (take_all (length buffer) (map g l) (omega (arith, length-map l g)), length-map l g) refl

  pub stored_first : length buffer ≤ length l → stored (map g l) buffer ≡ take (length buffer) (map g l)
  unfolding stored
  stored_first h = rw (drop_of_length-le buffer {i = length (map g l)} (omega (arith, length-map l g)), append-nil) refl
