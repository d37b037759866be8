-- The places of a tile that pass: how many, which, and the pairs that they make. Assumes nothing.
use mathlib.Core.Path.{◌≡◌, refl, sym, ap, ap₂, ◌∙◌}
use mathlib.Core.List.{List, [], ◌∷◌, ◌++◌, map, append-nil, map-append}
use mathlib.Core.Bool.{Bool, true, false, cond}
use Prim.Native.Nat.{ℕ, zero, suc, ◌+◌, ◌≤◌, ◌<◌}
use native.Mathlib.Nat.{add-zero}
use native.Mathlib.Decide.{dec_lt}
use native.Mathlib.Numerals.{add-one}
use native.Mathlib.Omega.{arith}
use lib.ListN.{length, get_or, set, take, length-append, get_or-append}
use lib.Seq.{get_or_at, take-suc-set, take-set-le}
use Rattle.written.specs.Places.{over}
use Rattle.written.proofs.Laws.Places.{over_split}
use Rattle.written.specs.RadiusWalk.{Found, keep_if}
use Rattle.leaf.specs.Sums.{hits}
use Rattle.leaf.proofs.Hits.{one_at_most, hits_few}
use Rattle.rooms.specs.Emitted.{places_of, places_below}

-- ---- how many pass

pub hits_same : (t u : ℕ → Bool) (n : ℕ) → ((j : ℕ) → j < n → t j ≡ u j) → hits t n ≡ hits u n
unfolding hits
hits_same t u zero e = refl
hits_same t u (suc n) e = ap₂ (λ (k : ℕ) (b : Bool). k + cond b 1 0) (hits_same t u n (λ j h. e j (omega arith))) (e n (omega arith))

last_length : (b : Bool) (n : ℕ) → length (cond b (n ∷ []) []) ≡ cond b 1 0
last_length true n = refl
last_length false n = refl

pub places_many : (test : ℕ → Bool) (n : ℕ) → length (places_of test n) ≡ hits test n
unfolding places_of hits
places_many test zero = refl
places_many test (suc n) = length-append (places_of test n) (cond (test n) (n ∷ []) []) ∙ ap₂ ◌+◌ (places_many test n) (last_length (test n) n)

pub found_few : (test : ℕ → Bool) {n : ℕ} (j : ℕ) → n ≡ hits test j → n ≤ j
found_few test j e = omega (arith, hits_few test j)

pub next_few : (test : ℕ → Bool) {n bit : ℕ} (j : ℕ) → n ≡ hits test j → bit ≡ cond (test j) 1 0 → n + bit ≤ j + 1
next_few test j e f = omega (arith, hits_few test j, one_at_most (test j))

-- ---- which pass

-- the place j is written after the n found, and counts if it passes
pub places_next : (test : ℕ → Bool) (l : List ℕ) (n : ℕ) {bit : ℕ} (j : ℕ) → n < length l → bit ≡ cond (test j) 1 0 → take n l ≡ places_of test j → take (n + bit) (set l n j) ≡ places_of test (j + 1)
unfolding places_of
places_next test l n j h f e = rw (f, add-one j) (go (test j))
  where
    go : (b : Bool) → take (n + cond b 1 0) (set l n j) ≡ places_of test j ++ cond b (j ∷ []) []
    go true = rw (add-one n) (take-suc-set l n j h ∙ ap (λ (z : List ℕ). z ++ (j ∷ [])) e)
    go false = rw (add-zero n) (take-set-le n l n j (omega arith) ∙ e ∙ sym (append-nil (places_of test j)))

none_left : (l : List ℕ) → length l ≡ 0 → l ≡ []
none_left [] e = refl
none_left (x ∷ l) e = absurd (omega arith)

pub none_pass : (test : ℕ → Bool) (n : ℕ) → hits test n ≡ 0 → places_of test n ≡ []
none_pass test n e = none_left (places_of test n) (places_many test n ∙ e)

pub all_pass : (test : ℕ → Bool) (n : ℕ) → hits test n ≡ n → places_of test n ≡ places_below n
unfolding places_of hits
all_pass test zero e = refl
all_pass test (suc n) e = go (test n) e (all_pass test n)
  where
    go : (b : Bool) → hits test n + cond b 1 0 ≡ suc n → (hits test n ≡ n → places_of test n ≡ places_below n) → places_of test n ++ cond b (n ∷ []) [] ≡ places_below n ++ (n ∷ [])
    go true h before = ap (λ (l : List ℕ). l ++ (n ∷ [])) (before (omega arith))
    go false h before = absurd (omega (arith, hits_few test n))

-- a list of places below n, and n itself or not
below_next : (n i : ℕ) (l : List ℕ) (b : Bool) → ((k : ℕ) → k < length l → get_or l k 0 < n) → i < length (l ++ cond b (n ∷ []) []) → Dec (i < length l) → get_or (l ++ cond b (n ∷ []) []) i 0 < suc n
below_next n i l b below h (yes d) = rw (get_or-append l (cond b (n ∷ []) []) 0 i d) (omega (arith, below i d))
below_next n i l true below h (no d) = rw (get_or_at l n [] 0 i (omega (arith, length-append l (n ∷ [])))) (omega arith)
below_next n i l false below h (no d) = absurd (omega (arith, length-append l []))

pub places_below_lem : (test : ℕ → Bool) (n i : ℕ) → i < length (places_of test n) → get_or (places_of test n) i 0 < n
unfolding places_of
places_below_lem test zero i h = absurd (omega arith)
places_below_lem test (suc n) i h = below_next n i (places_of test n) (test n) (places_below_lem test n) h (dec_lt i (length (places_of test n)))

-- ---- all of them

hits_all : (n : ℕ) → hits (λ j. true) n ≡ n
unfolding hits
hits_all zero = refl
hits_all (suc n) = rw (hits_all n) (omega arith)

pub below_many : (n : ℕ) → length (places_below n) ≡ n
below_many n = places_many (λ j. true) n ∙ hits_all n

pub below_at : (n i : ℕ) → i < n → get_or (places_below n) i 0 ≡ i
unfolding places_of
below_at zero i h = absurd (omega arith)
below_at (suc n) i h = go (dec_lt i n) (below_at n i)
  where
    go : Dec (i < n) → (i < n → get_or (places_below n) i 0 ≡ i) → get_or (places_below n ++ (n ∷ [])) i 0 ≡ i
    go (yes d) before = get_or-append (places_below n) (n ∷ []) 0 i (omega (arith, below_many n)) ∙ before d
    go (no d) before =
        let e : i ≡ n = omega arith in
        get_or_at (places_below n) n [] 0 i (below_many n ∙ sym e) ∙ sym e

-- ---- the pairs that they make

over_last : (g : ℕ → List Found) (a n : ℕ) → over g a (suc n) ≡ over g a n ++ g (a + n)
over_last g a n = ap (over g a) (sym (add-one n)) ∙ over_split g a n 1 ∙ ap (λ (l : List Found). over g a n ++ l) (append-nil (g (a + n)))

pub over_places : (g : ℕ → List Found) (f : ℕ → Found) (test : ℕ → Bool) (a n : ℕ) → ((j : ℕ) → j < n → g (a + j) ≡ keep_if (test j) (f j)) → over g a n ≡ map f (places_of test n)
unfolding places_of
over_places g f test a zero e = refl
over_places g f test a (suc n) e =
    over_last g a n
    ∙ ap₂ (◌++◌ {A = Found}) (over_places g f test a n (λ j h. e j (omega arith))) (e n (omega arith) ∙ go (test n))
    ∙ sym (map-append f (places_of test n) (cond (test n) (n ∷ []) []))
  where
    go : (b : Bool) → keep_if b (f n) ≡ map f (cond b (n ∷ []) [])
    go true = refl
    go false = refl
