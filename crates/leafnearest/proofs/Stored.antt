-- Items and distances, kept in two lists, as one list of answers. Assumes nothing.
use mathlib.Core.Path.{◌≡◌, refl, ap}
use mathlib.Core.Bool.{Bool, true, false, cond}
use mathlib.Core.List.{List, [], ◌∷◌, ◌++◌}
use Prim.Native.Nat.{ℕ, zero, suc, ◌+◌, ◌<◌}
use native.Mathlib.Nat.{not-suc-le-zero}
use native.Mathlib.Numerals.{add-one}
use native.Mathlib.Omega.{arith}
use lib.ListN.{length, set, get_or}
use lib.Ieee.{Float, nan, lt}
use Rattle.written.specs.Nearest.{Neighbour, answer_at, nearer}
use Rattle.leafnearest.specs.Answers.{answers}
use Rattle.leafnearest.specs.Each.{changed_from, changed_one}

abbrev pub answer : ℕ → Float → Neighbour
answer x d = record { item = x; distance = d }

pub length_answers : (items : List ℕ) (dists : List Float) → length items ≡ length dists → length (answers items dists) ≡ length dists
length_answers [] [] e = refl
length_answers [] (d ∷ ds) e = absurd (omega arith)
length_answers (x ∷ xs) [] e = absurd (omega arith)
length_answers (x ∷ xs) (d ∷ ds) e = ap suc (length_answers xs ds (omega arith))

pub get_answers : (items : List ℕ) (dists : List Float) (i : ℕ) → i < length items → i < length dists → answer_at (answers items dists) i ≡ answer (get_or items i 0) (get_or dists i nan)
get_answers [] ds i h l = absurd (not-suc-le-zero h)
get_answers (x ∷ xs) [] i h l = absurd (not-suc-le-zero l)
get_answers (x ∷ xs) (d ∷ ds) zero h l = refl
get_answers (x ∷ xs) (d ∷ ds) (suc i) h l = get_answers xs ds i (omega arith) (omega arith)

pub set_answers : (items : List ℕ) (dists : List Float) (i x : ℕ) (d : Float) → answers (set items i x) (set dists i d) ≡ set (answers items dists) i (answer x d)
set_answers [] ds i y e = refl
set_answers (x ∷ xs) [] zero y e = refl
set_answers (x ∷ xs) [] (suc i) y e = refl
set_answers (x ∷ xs) (d ∷ ds) zero y e = refl
set_answers (x ∷ xs) (d ∷ ds) (suc i) y e = rw (set_answers xs ds i y e)

pub append_answers : (xs ys : List ℕ) (ds es : List Float) → length xs ≡ length ds → answers (xs ++ ys) (ds ++ es) ≡ answers xs ds ++ answers ys es
append_answers [] ys [] es h = refl
append_answers [] ys (d ∷ ds) es h = absurd (omega arith)
append_answers (x ∷ xs) ys [] es h = absurd (omega arith)
append_answers (x ∷ xs) ys (d ∷ ds) es h = rw (append_answers xs ys ds es (omega arith))

-- ---- one right item against each answer of a tile

abbrev pub takes : (ℕ → Float) → ℕ → ℕ → Neighbour → Neighbour
takes new item i old = nearer (answer item (new i)) old

cond_answer : (b : Bool) (x y : ℕ) (d e : Float) → answer (cond b x y) (cond b d e) ≡ cond b (answer x d) (answer y e)
cond_answer true x y d e = refl
cond_answer false x y d e = refl

-- item and distance are replaced by one test
taken : (new : ℕ → Float) (item : ℕ) (items : List ℕ) (dists : List Float) (i : ℕ) → i < length items → i < length dists → answer (cond (lt (new i) (get_or dists i nan)) item (get_or items i 0)) (cond (lt (new i) (get_or dists i nan)) (new i) (get_or dists i nan)) ≡ takes new item i (answer_at (answers items dists) i)
taken new item items dists i h l = rw (get_answers items dists i h l) (cond_answer (lt (new i) (get_or dists i nan)) item (get_or items i 0) (new i) (get_or dists i nan))

-- a turn of the loop: where z is the new distance, and x and d are what is stored
pub stored_next : (new : ℕ → Float) (item : ℕ) (items : List ℕ) (dists : List Float) (i : ℕ) {z d : Float} {x : ℕ} → i < length items → length items ≡ length dists → z ≡ new i → x ≡ cond (lt z (get_or dists i nan)) item (get_or items i 0) → d ≡ cond (lt z (get_or dists i nan)) z (get_or dists i nan) → changed_from (takes new item) (i + 1) (i + 1) (answers (set items i x) (set dists i d)) ≡ changed_from (takes new item) i i (answers items dists)
stored_next new item items dists i h l e p q =
    rw (add-one i, set_answers items dists i _ _, p, q, e, taken new item items dists i h (omega arith)) (changed_one (takes new item) i i (answers items dists) (omega (arith, length_answers items dists l)))
