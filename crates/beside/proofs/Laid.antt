-- A list of answers laid out as items and distances, and read back. Assumes nothing.
use mathlib.Core.Path.{◌≡◌, refl, sym, ap, ap₂}
use mathlib.Core.List.{List, [], ◌∷◌, map}
use Prim.Native.Nat.{ℕ}
use native.Mathlib.Omega.{arith}
use lib.ListN.{length}
use lib.Ieee.{Float}
use Rattle.written.specs.Nearest.{Neighbour}
use Rattle.leafnearest.specs.Answers.{answers}
use Rattle.beside.specs.Calls.{updated, improved_to}

items_of : (items : List ℕ) (distances : List Float) → length items ≡ length distances → map (λ x. x.item) (answers items distances) ≡ items
items_of [] distances h = refl
items_of (x ∷ items) [] h = absurd (omega arith)
items_of (x ∷ items) (d ∷ distances) h = ap (λ (l : List ℕ). x ∷ l) (items_of items distances (omega arith))

distances_of : (items : List ℕ) (distances : List Float) → length items ≡ length distances → map (λ x. x.distance) (answers items distances) ≡ distances
distances_of [] [] h = refl
distances_of [] (d ∷ distances) h = absurd (omega arith)
distances_of (x ∷ items) [] h = absurd (omega arith)
distances_of (x ∷ items) (d ∷ distances) h = ap (λ (l : List Float). d ∷ l) (distances_of items distances (omega arith))

pub laid_out : {items : List ℕ} {distances : List Float} {l : List Neighbour} → length items ≡ length distances → answers items distances ≡ l → updated 1 items distances ≡ improved_to 1 l
laid_out {items} {distances} h e = rw (← e) (sym (ap₂ (updated 1) (items_of items distances h) (distances_of items distances h)))
