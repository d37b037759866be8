-- Laws of stretches of places, and of a list for each pair of places of two stretches. Assumes nothing.
use Rattle.std.specs.Prelude.{◌≡◌, refl, Bool, true, false, ◌&&◌, cond, ◌⊎◌, ℕ, zero, suc, ◌+◌, ◌*◌, ◌≤◌, ◌<◌, length, T, leb, ltb}
use Rattle.std.proofs.Common.{sym, ◌∙◌, subst, true≢false, inl, inr, add-zero, zero-add, add-suc, suc-add, zero-mul, arith, length-append, le→leb, lt→ltb, leb→le, ltb→lt}
use mathlib.Core.List.Permᴰ
use mathlib.Core.List.{List, [], ◌++◌, append_assoc, Permᴰ}
use Rattle.std.proofs.Math.Decide.{dec_lt}
use Rattle.written.specs.Places.{Part, In, inside, ind, over, cross}
use Rattle.written.proofs.Laws.Tests.{T_true}
use Rattle.written.proofs.Laws.Lists.{perm_of_eq, perm_append, perm_four}

-- ---- halves

-- w is the places of n, and then those of f
pub record Halves (w n f : Part) : Type 0 where
  pub first : n.from ≡ w.from
  pub then : f.from ≡ w.from + n.size
  pub both : w.size ≡ n.size + f.size

pub in_first : {p : ℕ} {w n f : Part} → Halves w n f → In p n → In p w
in_first h i = record { above = omega arith; below = omega arith }

pub in_then : {p : ℕ} {w n f : Part} → Halves w n f → In p f → In p w
in_then h i = record { above = omega arith; below = omega arith }

pub in_halves : {p : ℕ} {w n f : Part} → Halves w n f → In p w → In p n ⊎ In p f
in_halves {p} {w} {n} {f} h i = go (dec_lt p f.from)
  where
    go : Dec (p < f.from) → In p n ⊎ In p f
    go (yes l) = inl (record { above = omega arith; below = omega arith })
    go (no m) = inr (record { above = omega arith; below = omega arith })

-- ---- 1 where the place is in the stretch, 0 where it is not

pub inside_true : (p : ℕ) (w : Part) → In p w → inside p w ≡ true
inside_true p w i = rw (T_true (leb w.from p) (le→leb w.from p i.above), T_true (ltb p (w.from + w.size)) (lt→ltb p (w.from + w.size) i.below))

pub true_inside : (p : ℕ) (w : Part) → inside p w ≡ true → In p w
true_inside p w e = go (leb w.from p) refl (ltb p (w.from + w.size)) refl e
  where
    go : (x : Bool) → leb w.from p ≡ x → (y : Bool) → ltb p (w.from + w.size) ≡ y → (x && y) ≡ true → In p w
    go true u true v k = record { above = leb→le w.from p (subst T (sym u) tt); below = ltb→lt p (w.from + w.size) (subst T (sym v) tt) }
    go true u false v k = absurd (true≢false (sym k))
    go false u y v k = absurd (true≢false (sym k))

pub ind_in : {p : ℕ} {w : Part} → In p w → ind p w ≡ 1
unfolding ind
ind_in {p} {w} i = rw (inside_true p w i)

pub ind_out : {p : ℕ} {w : Part} → (In p w → ⊥) → ind p w ≡ 0
unfolding ind
ind_out {p} {w} i = go (inside p w) refl
  where
    go : (x : Bool) → inside p w ≡ x → ◌≡◌ {A = ℕ} (cond x 1 0) 0
    go true e = absurd (i (true_inside p w e))
    go false e = refl

pub ind_pos : {p : ℕ} {w : Part} → 0 < ind p w → In p w
unfolding ind
ind_pos {p} {w} h = go (inside p w) refl h
  where
    go : (x : Bool) → inside p w ≡ x → 0 < cond x 1 0 → In p w
    go true e h = true_inside p w e
    go false e h = absurd (omega arith)

pub ind_halves : (p : ℕ) {w n f : Part} → Halves w n f → ind p w ≡ ind p n + ind p f
ind_halves p {w} {n} {f} h = go (inside p n) refl (inside p f) refl
  where
    not_in : (v : Part) → inside p v ≡ false → In p v → ⊥
    not_in v e i = true≢false (sym (inside_true p v i) ∙ e)

    none : In p w → (In p n → ⊥) → (In p f → ⊥) → ⊥
    none i x y = split (in_halves h i)
      where
        split : In p n ⊎ In p f → ⊥
        split (inl a) = x a
        split (inr a) = y a

    go : (x : Bool) → inside p n ≡ x → (y : Bool) → inside p f ≡ y → ind p w ≡ ind p n + ind p f
    go true u y v =
        let i = true_inside p n u in
        let o : In p f → ⊥ = λ a. omega (arith, h.first, h.then, i, a) in
        rw (ind_in i, ind_in (in_first h i), ind_out o) refl
    go false u true v =
        let i = true_inside p f v in
        rw (ind_in i, ind_in (in_then h i), ind_out (not_in n u)) refl
    go false u false v = rw (ind_out (not_in n u), ind_out (not_in f v), ind_out (λ (a : In p w). none a (not_in n u) (not_in f v))) refl

-- where the second half is empty, the first is all
pub halves_all : {w n f : Part} → Halves w n f → f.size ≡ 0 → n ≡ w
halves_all {w} {n} {f} h e =
    let s : n.size ≡ w.size = omega arith in
    λ i. record { from = h.first i; size = s i }

-- ---- a list for each place, and for each pair of places

module _ {X : Type 0} where
  pub over_split : (g : ℕ → List X) (a n k : ℕ) → over g a (n + k) ≡ over g a n ++ over g (a + n) k
  over_split g a zero k = rw (zero-add, add-zero)
  over_split g a (suc n) k = rw (suc-add, add-suc, over_split g (suc a) n k, suc-add, append_assoc)

  pub over_perm : (g h : ℕ → List X) (a n : ℕ) → ((p : ℕ) → a ≤ p → p < a + n → Permᴰ (g p) (h p)) → Permᴰ (over g a n) (over h a n)
  over_perm g h a zero e = Permᴰ.nil
  over_perm g h a (suc n) e = perm_append (e a (omega arith) (omega arith)) (over_perm g h (suc a) n (λ p x y. e p (omega arith) (omega arith)))

  pub over_append : (g h : ℕ → List X) (a n : ℕ) → Permᴰ (over g a n ++ over h a n) (over (λ p. g p ++ h p) a n)
  over_append g h a zero = Permᴰ.nil
  over_append g h a (suc n) =
      Permᴰ.trans (perm_four (g a) (over g (suc a) n) (h a) (over h (suc a) n))
      (Permᴰ.append_left (g a ++ h a) (over_append g h (suc a) n))

  pub over_nil : (g : ℕ → List X) (a n : ℕ) → ((p : ℕ) → a ≤ p → p < a + n → g p ≡ []) → over g a n ≡ []
  over_nil g a zero e = refl
  over_nil g a (suc n) e = rw (e a (omega arith) (omega arith)) (over_nil g (suc a) n (λ p x y. e p (omega arith) (omega arith)))

  pub over_length : (g : ℕ → List X) (a n k : ℕ) → ((p : ℕ) → a ≤ p → p < a + n → length (g p) ≡ k) → length (over g a n) ≡ n * k
  over_length g a zero k e = sym (zero-mul k)
  over_length g a (suc n) k e =
      rw length-append
      (omega (arith, e a (omega arith) (omega arith), over_length g (suc a) n k (λ p x y. e p (omega arith) (omega arith))))

  pub cross_left : (f : ℕ → ℕ → List X) (w n k r : Part) → Halves w n k → cross f n r ++ cross f k r ≡ cross f w r
  cross_left f w n k r h = rw (h.both, h.first, h.then) (sym (over_split (λ p. over (f p) r.from r.size) w.from n.size k.size))

  pub cross_right : (f : ℕ → ℕ → List X) (l w n k : Part) → Halves w n k → Permᴰ (cross f l n ++ cross f l k) (cross f l w)
  cross_right f l w n k h =
      Permᴰ.trans (over_append (λ p. over (f p) n.from n.size) (λ p. over (f p) k.from k.size) l.from l.size)
      (over_perm (λ p. over (f p) n.from n.size ++ over (f p) k.from k.size) (λ p. over (f p) w.from w.size) l.from l.size (λ p x y. perm_of_eq (rw (h.both, h.first, h.then) (sym (over_split (f p) w.from n.size k.size)))))

  pub cross_nil : (f : ℕ → ℕ → List X) (l r : Part) → ((p q : ℕ) → In p l → In q r → f p q ≡ []) → cross f l r ≡ []
  cross_nil f l r e =
      over_nil _ l.from l.size
      (λ p x y. over_nil (f p) r.from r.size (λ q u v. e p q (record { above = x; below = y }) (record { above = u; below = v })))

  pub cross_full : (f : ℕ → ℕ → List X) (l r : Part) → ((p q : ℕ) → In p l → In q r → length (f p q) ≡ 1) → length (cross f l r) ≡ l.size * r.size
  cross_full f l r e =
      over_length _ l.from l.size r.size
      (λ p x y. over_length (f p) r.from r.size 1 (λ q u v. e p q (record { above = x; below = y }) (record { above = u; below = v })) ∙ omega arith)
