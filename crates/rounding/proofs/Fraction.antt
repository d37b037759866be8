-- Every finite value as a signed fraction over a denominator that the values at hand share: then the order, the differences and the sums are linear arithmetic on natural numbers.
-- Assumes nothing.
use Rattle.rounding.proofs.Vectors  -- no law is checked before the numbers
use Rattle.std.specs.Prelude.{◌≡◌, refl, ◌⊎◌, ℕ, ◌+◌, ◌*◌, ◌≤◌, ◌<◌, Bool, true, false, not, ◌&&◌, ◌||◌, T, eqb, Float}
use Rattle.std.proofs.Common.{sym, ap, ◌∙◌, inl, inr, le_of_eq, le_of_lt, eq-or-lt_of_le, add-mul, zero-mul, mul_comm, mul_assoc, mul_left_comm, mul_right_comm, mul-pos, mul-le-mul_right, le_of_mul-le-mul_right, mul-lt-mul_of_pos_right, lt_of_mul-lt-mul_right, arith, eqb→eq, ltb→lt, lt→ltb}
use Rattle.std.specs.Bool.{beq}
use Rattle.std.specs.Float.{nan, inf, fin}
use Rattle.std.specs.Float.Ieee.{below, level, le, lt}
use Rattle.std.specs.Float.Ieee.Fits.{and_i, and_l, and_r, eq→eqb}
use Rattle.std.specs.Float.Ieee.Scale.{finite}
use Rattle.std.specs.Float.Ieee.Positive.{num, den, den_pos}

-- the sign
abbrev pub sgn : Float → Bool
sgn nan = false
sgn (inf s) = s
sgn (fin s m e) = s

-- x is finite, and a / c in size
pub record Val (x : Float) (a c : ℕ) : Type 0 where
  pub bounded : T (finite x)
  pub under : 0 < c
  pub cross : num x * c ≡ a * den x

-- ---- ±a against ±b without subtraction: ±a is `gain s a` less `gain (not s) a`
abbrev pub gain : Bool → ℕ → ℕ
gain false a = a
gain true a = 0

-- compare this with the same of b and a
abbrev pub side : Bool → ℕ → Bool → ℕ → ℕ
side s a t b = gain s a + gain (not t) b

abbrev pub Le : Bool → ℕ → Bool → ℕ → Type 0
Le s a t b = side s a t b ≤ side t b s a

abbrev pub Lt : Bool → ℕ → Bool → ℕ → Type 0
Lt s a t b = side s a t b < side t b s a

-- ---- tests
pub or_l : (a b : Bool) → T a → T (a || b)
or_l true b t = tt
or_l false b t = absurd t

pub or_r : (a b : Bool) → T b → T (a || b)
or_r true b t = tt
or_r false b t = t

pub or_split : (a b : Bool) → T (a || b) → T a ⊎ T b
or_split true b t = inl tt
or_split false b t = inr t

pub four : (a b c d : Bool) → T (a && b && c && d) → T a × T b × T c × T d
four false b c d h = absurd h
four true false c d h = absurd h
four true true false d h = absurd h
four true true true d h = (tt, tt, tt, h)

below→Lt : (s : Bool) (a : ℕ) (t : Bool) (b : ℕ) → T (below s a t b) → Lt s a t b
below→Lt false a false b h = omega (arith, ltb→lt a b h)
below→Lt false a true b h = absurd h
below→Lt true a false b h = omega (arith, ltb→lt 0 (a + b) h)
below→Lt true a true b h = omega (arith, ltb→lt b a h)

Lt→below : (s : Bool) (a : ℕ) (t : Bool) (b : ℕ) → Lt s a t b → T (below s a t b)
Lt→below false a false b h = lt→ltb a b (omega arith)
Lt→below false a true b h = omega arith
Lt→below true a false b h = lt→ltb 0 (a + b) (omega arith)
Lt→below true a true b h = lt→ltb b a (omega arith)

level→eq : (s : Bool) (a : ℕ) (t : Bool) (b : ℕ) → T (level s a t b) → side s a t b ≡ side t b s a
level→eq s a t b h = go s t (and_r (eqb a b) (beq s t || eqb a 0) h)
  where
    same : a ≡ b
    same = eqb→eq a b (and_l (eqb a b) (beq s t || eqb a 0) h)

    go : (s t : Bool) → T (beq s t || eqb a 0) → side s a t b ≡ side t b s a
    go false false k = omega (arith, same)
    go false true k = omega (arith, same, eqb→eq a 0 k)
    go true false k = omega (arith, same, eqb→eq a 0 k)
    go true true k = omega (arith, same)

pub eq→level : (s : Bool) (a : ℕ) (t : Bool) (b : ℕ) → side s a t b ≡ side t b s a → T (level s a t b)
eq→level s a t b h = and_i (eqb a b) (beq s t || eqb a 0) (eq→eqb (same s t h)) (signs s t h)
  where
    same : (s t : Bool) → side s a t b ≡ side t b s a → a ≡ b
    same false false h = omega arith
    same false true h = omega arith
    same true false h = omega arith
    same true true h = omega arith

    signs : (s t : Bool) → side s a t b ≡ side t b s a → T (beq s t || eqb a 0)
    signs false false h = tt
    signs false true h = eq→eqb {a = a} {b = 0} (omega arith)
    signs true false h = eq→eqb {a = a} {b = 0} (omega arith)
    signs true true h = tt

test→Le : (s : Bool) (a : ℕ) (t : Bool) (b : ℕ) → T (below s a t b || level s a t b) → Le s a t b
test→Le s a t b h = elim (or_split (below s a t b) (level s a t b) h) [ inl l ↦ le_of_lt (below→Lt s a t b l) | inr e ↦ le_of_eq (level→eq s a t b e) ]

Le→test : (s : Bool) (a : ℕ) (t : Bool) (b : ℕ) → Le s a t b → T (below s a t b || level s a t b)
Le→test s a t b h = elim (eq-or-lt_of_le h) [ inl e ↦ or_r (below s a t b) (level s a t b) (eq→level s a t b e) | inr l ↦ or_l (below s a t b) (level s a t b) (Lt→below s a t b l) ]

le_is : (x y : Float) → T (finite x) → T (finite y) → let A = num x * den y in let B = num y * den x in le x y ≡ (below (sgn x) A (sgn y) B || level (sgn x) A (sgn y) B)
unfolding le
le_is nan y p q = absurd p
le_is (inf s) y p q = absurd p
le_is (fin s m e) nan p q = absurd q
le_is (fin s m e) (inf t) p q = absurd q
le_is (fin s m e) (fin t n d) p q = refl

lt_is : (x y : Float) → T (finite x) → T (finite y) → lt x y ≡ below (sgn x) (num x * den y) (sgn y) (num y * den x)
unfolding lt
lt_is nan y p q = absurd p
lt_is (inf s) y p q = absurd p
lt_is (fin s m e) nan p q = absurd q
lt_is (fin s m e) (inf t) p q = absurd q
lt_is (fin s m e) (fin t n d) p q = refl

-- ---- A / D and a / N are one fraction, and so are B / D and b / N
scale_le : (A B a b N D : ℕ) → 0 < D → A * N ≡ a * D → B * N ≡ b * D → A ≤ B → a ≤ b
scale_le A B a b N D P p q h = le_of_mul-le-mul_right (rw (sym p, sym q) (mul-le-mul_right N h)) P

scale_lt : (A B a b N D : ℕ) → 0 < N → A * N ≡ a * D → B * N ≡ b * D → A < B → a < b
scale_lt A B a b N D P p q h = lt_of_mul-lt-mul_right D (rw (sym p, sym q) (mul-lt-mul_of_pos_right h P))

pub sum_scale : (A B a b N D : ℕ) → A * N ≡ a * D → B * N ≡ b * D → (A + B) * N ≡ (a + b) * D
sum_scale A B a b N D p q = rw (add-mul A B N, add-mul a b D, p, q)

gain_scale : (s : Bool) (A a N D : ℕ) → A * N ≡ a * D → gain s A * N ≡ gain s a * D
gain_scale false A a N D p = p
gain_scale true A a N D p = zero-mul N ∙ sym (zero-mul D)

pub side_scale : (s : Bool) (A : ℕ) (t : Bool) (B a b N D : ℕ) → A * N ≡ a * D → B * N ≡ b * D → side s A t B * N ≡ side s a t b * D
side_scale s A t B a b N D p q = sum_scale (gain s A) (gain (not t) B) (gain s a) (gain (not t) b) N D (gain_scale s A a N D p) (gain_scale (not t) B b N D q)

-- ---- two values over N, and over the product of their own denominators, as `le`, `lt`, `add` and `sub` have them
module _ {x y : Float} {a b N : ℕ} (p : Val x a N) (q : Val y b N) where
  pub both_pos : 0 < den x * den y
  both_pos = mul-pos (den_pos x) (den_pos y)

  pub left : num x * den y * N ≡ a * (den x * den y)
  left = mul_right_comm (num x) (den y) N ∙ ap (λ (z : ℕ). z * den y) p.cross ∙ mul_assoc a (den x) (den y)

  pub right : num y * den x * N ≡ b * (den x * den y)
  right = mul_right_comm (num y) (den x) N ∙ ap (λ (z : ℕ). z * den x) q.cross ∙ mul_right_comm b (den y) (den x) ∙ mul_assoc b (den x) (den y)

  near : side (sgn x) (num x * den y) (sgn y) (num y * den x) * N ≡ side (sgn x) a (sgn y) b * (den x * den y)
  near = side_scale (sgn x) (num x * den y) (sgn y) (num y * den x) a b N (den x * den y) left right

  far : side (sgn y) (num y * den x) (sgn x) (num x * den y) * N ≡ side (sgn y) b (sgn x) a * (den x * den y)
  far = side_scale (sgn y) (num y * den x) (sgn x) (num x * den y) b a N (den x * den y) right left

  pub le→Le : T (le x y) → Le (sgn x) a (sgn y) b
  le→Le h = scale_le _ _ _ _ N (den x * den y) both_pos near far (test→Le (sgn x) (num x * den y) (sgn y) (num y * den x) (rw (le_is x y p.bounded q.bounded) at h))

  pub Le→le : Le (sgn x) a (sgn y) b → T (le x y)
  Le→le h = rw (le_is x y p.bounded q.bounded) (Le→test (sgn x) (num x * den y) (sgn y) (num y * den x) (scale_le _ _ _ _ (den x * den y) N p.under (sym near) (sym far) h))

  pub lt→Lt : T (lt x y) → Lt (sgn x) a (sgn y) b
  lt→Lt h = scale_lt _ _ _ _ N (den x * den y) p.under near far (below→Lt (sgn x) (num x * den y) (sgn y) (num y * den x) (rw (lt_is x y p.bounded q.bounded) at h))

  pub Lt→lt : Lt (sgn x) a (sgn y) b → T (lt x y)
  Lt→lt h = rw (lt_is x y p.bounded q.bounded) (Lt→below (sgn x) (num x * den y) (sgn y) (num y * den x) (scale_lt _ _ _ _ (den x * den y) N both_pos (sym near) (sym far) h))

-- ---- a denominator for four values
pub record Common (x y z w : Float) : Type 0 where
  pub over : ℕ
  pub a : ℕ
  pub b : ℕ
  pub c : ℕ
  pub d : ℕ
  pub vx : Val x a over
  pub vy : Val y b over
  pub vz : Val z c over
  pub vw : Val w d over

pub val_of : (x : Float) (k N : ℕ) → T (finite x) → 0 < N → den x * k ≡ N → Val x (num x * k) N
val_of x k N h P e = record {
  bounded = h;
  under = P;
  cross = ap (λ (z : ℕ). num x * z) (sym e ∙ mul_comm (den x) k) ∙ sym (mul_assoc (num x) k (den x));
}

pub common : (x y z w : Float) → T (finite x) → T (finite y) → T (finite z) → T (finite w) → Common x y z w
common x y z w p q r s =
    let A = den x in
    let B = den y in
    let C = den z in
    let D = den w in
    let N = A * B * (C * D) in
    let P = mul-pos (mul-pos (den_pos x) (den_pos y)) (mul-pos (den_pos z) (den_pos w)) in
    record {
      over = N;
      a = num x * (B * (C * D));
      b = num y * (A * (C * D));
      c = num z * (A * B * D);
      d = num w * (A * B * C);
      vx = val_of x (B * (C * D)) N p P (simp mul_assoc);
      vy = val_of y (A * (C * D)) N q P (simp (mul_assoc, mul_left_comm));
      vz = val_of z (A * B * D) N r P (simp (mul_assoc, mul_left_comm));
      vw = val_of w (A * B * C) N s P (simp (mul_assoc, mul_comm, mul_left_comm));
    }
