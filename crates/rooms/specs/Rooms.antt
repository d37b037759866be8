-- Pairs found and stored one after the other (document 01: the first that fit are stored, all are counted). Assumes nothing.
use Rattle.std.specs.Prelude.{◌≡◌, List, [], ◌∷◌, ℕ, suc, length, set, Float}
use Rattle.written.specs.RadiusWalk.{Found}
use Rattle.written.specs.Answers.{PairRooms}

-- the number found so far, and the three buffers
pub record Filling : Type 0 where
  pub found : ℕ
  pub rooms : PairRooms

abbrev pub filling : ℕ → (lefts rights : List ℕ) → (distances : List Float) → Filling
filling found lefts rights distances = record { found = found; rooms = record { lefts = lefts; rights = rights; distances = distances } }

-- the three buffers have one length
abbrev pub SameRooms : List ℕ → List ℕ → List Float → Type 0
SameRooms lefts rights distances = (length lefts ≡ length rights) × (length lefts ≡ length distances)

-- one pair more: counted, and stored at the next place; where there is none, `set` changes nothing
abbrev pub put : Filling → Found → Filling
put s x =
    let n = s.found in
    let b = s.rooms in
    filling (suc n) (set b.lefts n x.left) (set b.rights n x.right) (set b.distances n x.distance)

unfoldable pub puts : Filling → List Found → Filling
puts s [] = s
puts s (x ∷ l) = puts (put s x) l
