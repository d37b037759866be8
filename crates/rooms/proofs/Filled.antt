-- Pairs stored one by one as far as there is room: one pair more, and what is left when the room is full. Assumes nothing.
use mathlib.Core.Path.{◌≡◌, refl, sym, ap, ◌∙◌}
use mathlib.Core.List.{List, [], ◌∷◌, map}
use Prim.Native.Nat.{ℕ, suc, ◌+◌, ◌-◌, ◌≤◌, ◌<◌, min}
use native.Mathlib.Numerals.{add-one}
use native.Mathlib.Nat.{add-zero, add-suc}
use native.Mathlib.Omega.{arith}
use lib.ListN.{length, get_or, take, drop, length-drop, take-append-drop, length-map, get_or-map}
use lib.Seq.{take-suc, set_out}
use lib.Ieee.{Float}
use Rattle.written.specs.RadiusWalk.{Found}
use Rattle.rooms.specs.Rooms.{Filling, filling, put, puts, SameRooms}
use Rattle.rooms.specs.Stored.{puts_append}

-- the loops' start
pub none_stored : (n : ℕ) (a b : List ℕ) (d : List Float) → filling (n + 0) a b d ≡ puts (filling n a b d) []
unfolding puts
none_stored n a b d = ap (λ (k : ℕ). filling k a b d) (add-zero n)

-- one pair more of a list
put_next : (s : Filling) (l : List Found) (i : ℕ) (z x : Found) → i < length l → get_or l i z ≡ x → put (puts s (take i l)) x ≡ puts s (take (suc i) l)
unfolding puts
put_next s l i z x h e = rw (take-suc l i z, puts_append, e) refl

-- the loops' step: the pairs of i places were stored, and that of the next place j goes to its own place
pub stored_next : (s : Filling) (g : ℕ → Found) (places : List ℕ) (n i j : ℕ) {a b a' b' : List ℕ} {d d' : List Float}
    → i < length places
    → get_or places i 0 ≡ j
    → filling (n + i) a b d ≡ puts s (take i (map g places))
    → filling (suc (n + i)) a' b' d' ≡ put (filling (n + i) a b d) (g j)
    → filling (n + (i + 1)) a' b' d' ≡ puts s (take (i + 1) (map g places))
stored_next s g places n i j h e before step =
    rw (add-one i, add-suc n i)
    (step
    ∙ ap (λ (t : Filling). put t (g j)) before
    ∙ put_next s (map g places) i (g 0) (g j) (omega (arith, length-map places g)) (get_or-map g places i 0 ∙ ap g e))

-- with no room left pairs are counted only
counted_only : (n : ℕ) (a b : List ℕ) (d : List Float) (l : List Found) → SameRooms a b d → (0 < length l → length a ≤ n) → puts (filling n a b d) l ≡ filling (n + length l) a b d
unfolding puts
counted_only n a b d [] same full = ap (λ (k : ℕ). filling k a b d) (omega arith)
counted_only n a b d (x ∷ l) same full =
    let h : length a ≤ n = full (omega arith) in
    let e : suc n + length l ≡ n + suc (length l) = omega arith in
    rw (set_out a n x.left h, set_out b n x.right (omega arith), set_out d n x.distance (omega arith), ← e)
    (counted_only (suc n) a b d l same (λ _. omega arith))

-- the loops' end: what fits is stored, and all are counted
pub stored_all : (s : Filling) (g : ℕ → Found) (places : List ℕ) (n m fit : ℕ) {a b : List ℕ} {d : List Float}
    → length places ≡ m
    → fit ≡ min m (length a - n)
    → SameRooms a b d
    → filling (n + fit) a b d ≡ puts s (take fit (map g places))
    → filling (n + m) a b d ≡ puts s (map g places)
stored_all s g places n m fit {a} {b} {d} many fits same first =
    let l = map g places in
    let all : length l ≡ length places = length-map places g in
    let rest : length (drop fit l) ≡ length l - fit = length-drop fit l in
    let e : n + fit + length (drop fit l) ≡ n + m = omega arith in
    sym
    (ap (puts s) (sym (take-append-drop fit l))
    ∙ puts_append s (take fit l) (drop fit l)
    ∙ ap (λ (t : Filling). puts t (drop fit l)) (sym first)
    ∙ counted_only (n + fit) a b d (drop fit l) same (λ (h : 0 < length (drop fit l)). omega arith)
    ∙ ap (λ (k : ℕ). filling k a b d) e)
