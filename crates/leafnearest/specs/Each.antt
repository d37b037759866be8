-- A change at each place of a list of answers: by place, one after the other, over lists joined, and with the first answers done. Assumes nothing.
use Rattle.std.specs.Prelude.{◌≡◌, refl, List, [], ◌∷◌, ◌++◌, ℕ, suc, ◌+◌, ◌≤◌, ◌<◌, length, take, drop, set}
use Rattle.std.proofs.Common.{sym, ◌∙◌, append-nil, append_assoc, add-zero, add-suc, suc-add, arith, length-append, drop_of_length-le, ext_get_or, take_all, take_at, drop_at, take-suc-set, drop-set-lt, drop-cons}
use Rattle.std.proofs.Math.Seq.{append_snoc}
use Rattle.written.specs.Nearest.{Neighbour, unset, answer_at, at_each}
use Rattle.written.proofs.Laws.Neighbours.{length_at_each, get_at_each}

abbrev pub Change : Type 0
Change = ℕ → Neighbour → Neighbour

-- what a list is, each of whose answers is the changed one
pub each_is : (f : Change) (k : ℕ) (c d : List Neighbour) → length c ≡ length d → ((i : ℕ) → i < length c → f (k + i) (answer_at c i) ≡ answer_at d i) → at_each f k c ≡ d
each_is f k c d e h =
    ext_get_or unset (at_each f k c) d (length_at_each f k c ∙ e) (λ i l. let m : i < length c = omega (arith, length_at_each f k c) in get_at_each f k c i m ∙ h i m)

-- two changes that agree, each from a first place of its own
pub each_agree : (f g : Change) (k l : ℕ) (c : List Neighbour) → ((i : ℕ) → i < length c → (y : Neighbour) → f (k + i) y ≡ g (l + i) y) → at_each f k c ≡ at_each g l c
each_agree f g k l c h =
    each_is f k c (at_each g l c) (sym (length_at_each g l c)) (λ i m. h i m (answer_at c i) ∙ sym (get_at_each g l c i m))

-- one change after the other
pub each_after : (f g h : Change) (k : ℕ) (c : List Neighbour) → ((p : ℕ) (y : Neighbour) → f p (g p y) ≡ h p y) → at_each f k (at_each g k c) ≡ at_each h k c
unfolding at_each
each_after f g h k [] e = refl
each_after f g h k (y ∷ ys) e = rw (e k y, each_after f g h (suc k) ys e)

pub each_append : (f : Change) (k : ℕ) (c d : List Neighbour) → at_each f k (c ++ d) ≡ at_each f k c ++ at_each f (k + length c) d
unfolding at_each
each_append f k [] d = rw add-zero
each_append f k (y ∷ ys) d = rw (add-suc, each_append f (suc k) ys d, suc-add)

-- ---- the first n answers as they are, the others changed, from the place p on

unfoldable pub changed_from : Change → (p n : ℕ) → List Neighbour → List Neighbour
changed_from f p n c = take n c ++ at_each f p (drop n c)

-- all are left; none are left
pub changed_none : (f : Change) (p : ℕ) (c : List Neighbour) → changed_from f p 0 c ≡ at_each f p c
unfolding changed_from
changed_none f p c = refl

pub changed_all : (f : Change) (p n : ℕ) (c : List Neighbour) → length c ≤ n → changed_from f p n c ≡ c
unfolding changed_from at_each
changed_all f p n c h = rw (take_all n c h, drop_of_length-le c h, append-nil c)

-- where the next answer has been changed, it is the same list
pub changed_one : (f : Change) (p n : ℕ) (c : List Neighbour) → n < length c → changed_from f (suc p) (suc n) (set c n (f p (answer_at c n))) ≡ changed_from f p n c
unfolding changed_from at_each
changed_one f p n c h = rw (take-suc-set c n _ h, drop-set-lt (suc n) c n _ (omega arith), drop-cons c n unset h) (append_snoc (take n c) _ _)

-- and where the next m have been
pub changed_more : (f : Change) (p n m : ℕ) (a t r : List Neighbour) → length a ≡ n → length t ≡ m → changed_from f (p + m) (n + m) (a ++ (at_each f p t ++ r)) ≡ changed_from f p n (a ++ (t ++ r))
unfolding changed_from
changed_more f p n m a t r d e =
    let s = at_each f p t in
    let l : length (a ++ s) ≡ n + m = length-append a s ∙ (rw (length_at_each f p t, d, e)) in
    rw (← append_assoc a s r, take_at (a ++ s) r (n + m) l, drop_at (a ++ s) r (n + m) l, take_at a (t ++ r) n d, drop_at a (t ++ r) n d, each_append f p t r, e) (append_assoc a s _)
