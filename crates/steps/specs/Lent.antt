-- The two lent trees and the three rooms as the code is lent them. Assumes nothing.
use Rattle.std.specs.Prelude.{List, [], ℕ, Float}
use Rattle.written.specs.Boxes.{Trees}
use Rattle.written.specs.Answers.{PairRooms}
use Rattle.tree.specs.Lent.{tree_of}

abbrev pub trees_of : (K : ℕ) → (lstarts : List ℕ) → (lstems : List Float) → (litems : List ℕ) → (lcoords : List Float) → (rstarts : List ℕ) → (rstems : List Float) → (ritems : List ℕ) → (rcoords : List Float) → Trees
trees_of K lstarts lstems litems lcoords rstarts rstems ritems rcoords = record { axes = K; left = tree_of lstarts lstems litems lcoords; right = tree_of rstarts rstems ritems rcoords }

-- where stems play no part
abbrev pub stemless : (K : ℕ) → (lstarts litems : List ℕ) → (lcoords : List Float) → (rstarts ritems : List ℕ) → (rcoords : List Float) → Trees
stemless K lstarts litems lcoords rstarts ritems rcoords = trees_of K lstarts [] litems lcoords rstarts [] ritems rcoords

-- where only the axes do
abbrev pub over_axes : ℕ → Trees
over_axes K = stemless K [] [] [] [] [] []

abbrev pub rooms_of : (lefts rights : List ℕ) → (distances : List Float) → PairRooms
rooms_of lefts rights distances = record { lefts = lefts; rights = rights; distances = distances }
