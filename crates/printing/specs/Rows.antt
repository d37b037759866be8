-- The lines' contents as the code holds them: three columns, and four totals. Assumes nothing.
use Rattle.std.specs.Prelude.{List, [], ◌∷◌, ◌++◌, ℕ, zero, suc, get_or, Float}
use Rattle.std.specs.Float.{nan}
use Rattle.written.specs.RadiusWalk.{Found}
use Rattle.written.specs.Totals.{Totals}

abbrev pub found : (left right : ℕ) → Float → Found
found left right distance = record { left = left; right = right; distance = distance }

-- the first n places of the columns
unfoldable pub rows : ℕ → (lefts rights : List ℕ) → (distances : List Float) → List Found
rows zero lefts rights distances = []
rows (suc n) lefts rights distances = rows n lefts rights distances ++ (found (get_or lefts n 0) (get_or rights n 0) (get_or distances n nan) ∷ [])

abbrev pub totalled : (visits measured ruled whole : ℕ) → Totals
totalled visits measured ruled whole = record { visits = visits; measured = measured; ruled_out = ruled; whole = whole }
