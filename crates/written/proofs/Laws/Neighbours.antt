-- Answers of nearest, improved by what right places offer; the largest distance held; a change at each place of a list. Assumes nothing.
use Rattle.written.proofs.Examples  -- no law is checked before the examples
use Rattle.std.specs.Prelude.{◌≡◌, refl, List, [], ◌∷◌, Bool, true, false, cond, ◌⊎◌, ℕ, zero, suc, ◌+◌, ◌≤◌, ◌<◌, length, replicate, T, Float}
use Rattle.std.proofs.Common.{ap, ◌∙◌, inl, inr, add-zero, add-suc, suc-add, not-suc-le-zero, arith}
use Rattle.std.proofs.Math.Decide.{ℕ_discrete}
use Rattle.std.specs.Float.{nan, inf, fin}
use Rattle.std.specs.Float.Ieee.{le, lt, eq}
use Rattle.rounding.proofs.Order.{known, le_refl, le_trans, lt_true→le, lt_false→le}
use Rattle.written.specs.Nearest.{Neighbour, unset, answer_at, nearer, improve, at_each, largest}

-- ---- a change at each place

pub length_at_each : (h : ℕ → Neighbour → Neighbour) (k : ℕ) (c : List Neighbour) → length (at_each h k c) ≡ length c
unfolding at_each
length_at_each h k [] = refl
length_at_each h k (y ∷ ys) = ap suc (length_at_each h (suc k) ys)

pub get_at_each : (h : ℕ → Neighbour → Neighbour) (k : ℕ) (c : List Neighbour) (i : ℕ) → i < length c → answer_at (at_each h k c) i ≡ h (k + i) (answer_at c i)
unfolding at_each
get_at_each h k [] i l = absurd (not-suc-le-zero l)
get_at_each h k (y ∷ ys) zero l = rw add-zero
get_at_each h k (y ∷ ys) (suc i) l = get_at_each h (suc k) ys i (omega arith) ∙ rw (suc-add, add-suc)

pub out_at_each : (h : ℕ → Neighbour → Neighbour) (k : ℕ) (c : List Neighbour) (i : ℕ) → length c ≤ i → answer_at (at_each h k c) i ≡ answer_at c i
unfolding at_each
out_at_each h k [] i l = refl
out_at_each h k (y ∷ ys) zero l = absurd (not-suc-le-zero l)
out_at_each h k (y ∷ ys) (suc i) l = out_at_each h (suc k) ys i (omega arith)

-- ---- the nearer of two

nearer_law : (x y : Neighbour) → T (known x.distance) → T (known y.distance)
    → T (known (nearer x y).distance) × T (le (nearer x y).distance x.distance) × T (le (nearer x y).distance y.distance) × ((nearer x y ≡ y) ⊎ (nearer x y ≡ x))
nearer_law x y n m = go (lt x.distance y.distance) refl
  where
    go : (b : Bool) → lt x.distance y.distance ≡ b
        → T (known (cond b x y).distance) × T (le (cond b x y).distance x.distance) × T (le (cond b x y).distance y.distance) × ((cond b x y ≡ y) ⊎ (cond b x y ≡ x))
    go true e = (n, le_refl x.distance n, lt_true→le x.distance y.distance e, inr refl)
    go false e = (m, lt_false→le x.distance y.distance n m e, le_refl y.distance m, inl refl)

-- ---- an answer y against n right places from a on came to z

pub record Improved (g : ℕ → Neighbour) (a n : ℕ) (y z : Neighbour) : Type 0 where
  pub num : T (known z.distance)
  pub low : (q : ℕ) → a ≤ q → q < a + n → T (le z.distance (g q).distance)
  pub down : T (le z.distance y.distance)
  pub comes : (z ≡ y) ⊎ ((q : ℕ) × (a ≤ q) × (q < a + n) × (z ≡ g q))

improved_step : (g : ℕ → Neighbour) (a n : ℕ) (y z : Neighbour) → T (le (nearer (g a) y).distance (g a).distance) → T (le (nearer (g a) y).distance y.distance)
    → (nearer (g a) y ≡ y) ⊎ (nearer (g a) y ≡ g a) → Improved g (suc a) n (nearer (g a) y) z → Improved g a (suc n) y z
improved_step g a n y z u v w i =
    record { num = i.num; low = λ q k l. low q k l (ℕ_discrete q a); down = le_trans _ _ _ i.down v; comes = comes i.comes w }
  where
    low : (q : ℕ) → a ≤ q → q < a + suc n → Dec (q ≡ a) → T (le z.distance (g q).distance)
    low q k l (yes e) = rw e (le_trans _ _ _ i.down u)
    low q k l (no x) = i.low q (omega arith) (omega arith)

    comes : (z ≡ nearer (g a) y) ⊎ ((q : ℕ) × (suc a ≤ q) × (q < suc a + n) × (z ≡ g q)) → (nearer (g a) y ≡ y) ⊎ (nearer (g a) y ≡ g a)
        → (z ≡ y) ⊎ ((q : ℕ) × (a ≤ q) × (q < a + suc n) × (z ≡ g q))
    comes (inl e) (inl k) = inl (e ∙ k)
    comes (inl e) (inr k) = inr (a, omega arith, omega arith, e ∙ k)
    comes (inr x) k = inr (x.0, omega (arith, x.1), omega (arith, x.2), x.3)

pub improved : (g : ℕ → Neighbour) (a n : ℕ) → ((q : ℕ) → a ≤ q → q < a + n → T (known (g q).distance)) → (y : Neighbour) → T (known y.distance) → Improved g a n y (improve g a n y)
unfolding improve
improved g a zero h y m = record { num = m; low = λ q i j. absurd (omega arith); down = le_refl y.distance m; comes = inl refl }
improved g a (suc n) h y m =
    let w = nearer_law (g a) y (h a (omega arith) (omega arith)) m in
    improved_step g a n y (improve g (suc a) n (nearer (g a) y)) w.1 w.2 w.3 (improved g (suc a) n (λ q i j. h q (omega arith) (omega arith)) (nearer (g a) y) w.0)

-- ---- the largest distance held

larger_law : (m x : Float) → T (known m) → T (known x) → T (known (cond (lt m x) x m)) × T (le m (cond (lt m x) x m)) × T (le x (cond (lt m x) x m))
larger_law m x k h = go (lt m x) refl
  where
    go : (b : Bool) → lt m x ≡ b → T (known (cond b x m)) × T (le m (cond b x m)) × T (le x (cond b x m))
    go true e = (h, lt_true→le m x e, le_refl x h)
    go false e = (k, le_refl m k, lt_false→le m x k h e)

pub largest_law : (c : List Neighbour) → ((p : ℕ) → T (known (answer_at c p).distance)) → (a n : ℕ) (m : Float) → T (known m)
    → T (le m (largest c a n m)) × ((p : ℕ) → a ≤ p → p < a + n → T (le (answer_at c p).distance (largest c a n m)))
unfolding largest
largest_law c h a zero m k = (le_refl m k, λ p i j. absurd (omega arith))
largest_law c h a (suc n) m k =
    let l = larger_law m (answer_at c a).distance k (h a) in
    let w = largest_law c h (suc a) n (cond (lt m (answer_at c a).distance) (answer_at c a).distance m) l.0 in
    (le_trans _ _ _ l.1 w.0, λ p i j. at c a n p (largest c (suc a) n (cond (lt m (answer_at c a).distance) (answer_at c a).distance m)) (le_trans _ _ _ l.2 w.0) w.1 i j (ℕ_discrete p a))
  where
    at : (c : List Neighbour) (a n p : ℕ) (v : Float) → T (le (answer_at c a).distance v) → ((p : ℕ) → suc a ≤ p → p < suc a + n → T (le (answer_at c p).distance v))
        → a ≤ p → p < a + suc n → Dec (p ≡ a) → T (le (answer_at c p).distance v)
    at c a n p v x y i j (yes e) = rw e x
    at c a n p v x y i j (no u) = y p (omega arith) (omega arith)

-- ---- where the answers start

pub get_unset : (n p : ℕ) → answer_at (replicate n unset) p ≡ unset
get_unset zero p = refl
get_unset (suc n) zero = refl
get_unset (suc n) (suc p) = get_unset n p

-- only +inf is not below +inf
pub le_inf : (x : Float) → T (le (inf false) x) → x ≡ inf false
unfolding le lt eq
le_inf nan h = absurd h
le_inf (inf false) h = refl
le_inf (inf true) h = absurd h
le_inf (fin s m e) h = absurd h
