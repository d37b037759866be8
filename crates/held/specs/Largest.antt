-- The largest distance held in a stretch of the answers, as the code is lent it: the distances alone (document 01, "Nearest": "the largest distance now held in its left span, 0 if it holds no points"). Assumes nothing.
use Rattle.std.specs.Prelude.{List, [], ◌∷◌, cond, take, drop, Float}
use Rattle.std.specs.Float.Ieee.{lt}
use Rattle.rounding.specs.Distance.{zero₊}
use Rattle.written.specs.Places.{Part}

-- m where none is larger
abbrev pub largest_from : Float → List Float → Float
largest_from m [] = m
largest_from m (x ∷ xs) = largest_from (cond (lt m x) x m) xs

abbrev pub largest_of : List Float → Float
largest_of = largest_from zero₊

-- the distances held at the places of a part
abbrev pub held_at : List Float → Part → List Float
held_at distances x = take x.size (drop x.from distances)
