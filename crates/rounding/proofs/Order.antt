-- The order of IEEE 754's values: `le`, `lt` and `eq` with NaN, the infinities and both zeros. That a test passes is `T (le x y)`, and `known x` says that x is no NaN.
-- Assumes nothing.
use Rattle.std.specs.Prelude.{◌≡◌, refl, ◌⊎◌, ℕ, ◌*◌, ◌≤◌, ◌<◌, Bool, true, false, not, pos, T, ltb, Float}
use Rattle.std.proofs.Common.{sym, subst, inl, inr, arith, T_not, ltb→lt, nltb→le}
use Rattle.std.specs.Float.{nan, inf, fin}
use Rattle.std.specs.Float.Ieee.{up, down, le, lt, eq, is_nan}
use Rattle.std.specs.Float.Ieee.Scale.{finite}
use Rattle.rounding.proofs.Fraction.{sgn, Le, Lt, side, or_l, or_r, or_split, eq→level, le→Le, Le→le, lt→Lt, Lt→lt, common}

abbrev pub known : Float → Bool
known x = not (is_nan x)

pub finite_known : (x : Float) → T (finite x) → T (known x)
unfolding is_nan
finite_known nan h = absurd h
finite_known (inf s) h = absurd h
finite_known (fin s m e) h = tt

-- ---- NaN: a comparison with it is false, on either side
pub nan_left : (x : Float) → (lt nan x ≡ false) × (eq nan x ≡ false) × (le nan x ≡ false)
unfolding le
nan_left x = (refl, refl, refl)

pub nan_right : (x : Float) → (lt x nan ≡ false) × (eq x nan ≡ false) × (le x nan ≡ false)
unfolding le
nan_right nan = (refl, refl, refl)
nan_right (inf s) = (refl, refl, refl)
nan_right (fin s m e) = (refl, refl, refl)

pub le_known_l : (x y : Float) → T (le x y) → T (known x)
unfolding le is_nan
le_known_l nan y h = h
le_known_l (inf s) y h = tt
le_known_l (fin s m e) y h = tt

pub le_known_r : (x y : Float) → T (le x y) → T (known y)
unfolding is_nan
le_known_r x nan h = subst T (nan_right x).2 h
le_known_r x (inf t) h = tt
le_known_r x (fin t n d) h = tt

-- ---- both zeros: equal, and neither below the other
pub zeros : (s t : Bool) → (eq (fin s 0 (pos 0)) (fin t 0 (pos 0)) ≡ true) × (lt (fin s 0 (pos 0)) (fin t 0 (pos 0)) ≡ false)
unfolding eq lt
zeros false false = (refl, refl)
zeros false true = (refl, refl)
zeros true false = (refl, refl)
zeros true true = (refl, refl)

-- ---- the infinities: at the ends, and outside all finite values
pub bottom_le : (x : Float) → T (known x) → T (le (inf true) x)
unfolding le is_nan
bottom_le nan h = h
bottom_le (inf false) h = tt
bottom_le (inf true) h = tt
bottom_le (fin s m e) h = tt

pub le_top : (x : Float) → T (known x) → T (le x (inf false))
unfolding le is_nan
le_top nan h = h
le_top (inf false) h = tt
le_top (inf true) h = tt
le_top (fin s m e) h = tt

pub finite_inside : (x : Float) → T (finite x) → T (lt (inf true) x) × T (lt x (inf false))
unfolding lt
finite_inside nan h = absurd h
finite_inside (inf s) h = absurd h
finite_inside (fin s m e) h = (tt, tt)

-- ---- from `lt` and `eq` to `le`
pub lt→le : (x y : Float) → T (lt x y) → T (le x y)
unfolding le
lt→le x y h = or_l (lt x y) (eq x y) h

eq→le : (x y : Float) → T (eq x y) → T (le x y)
unfolding le
eq→le x y h = or_r (lt x y) (eq x y) h

-- what is not NaN equals itself
pub eq_refl : (x : Float) → T (known x) → T (eq x x)
unfolding eq is_nan
eq_refl nan h = absurd h
eq_refl (inf false) h = tt
eq_refl (inf true) h = tt
eq_refl (fin s m e) h = eq→level s (m * up e * down e) s (m * up e * down e) refl

pub le_refl : (x : Float) → T (known x) → T (le x x)
le_refl x h = eq→le x x (eq_refl x h)

-- ---- transitivity
le_trans_finite : (x y z : Float) → T (finite x) → T (finite y) → T (finite z) → T (le x y) → T (le y z) → T (le x z)
le_trans_finite x y z p q r h k =
    let n = common x y z z p q r r in
    let H : Le (sgn x) n.a (sgn y) n.b = le→Le n.vx n.vy h in
    let K : Le (sgn y) n.b (sgn z) n.c = le→Le n.vy n.vz k in
    Le→le n.vx n.vz (omega arith)

pub le_trans : (x y z : Float) → T (le x y) → T (le y z) → T (le x z)
unfolding le
le_trans nan y z h k = absurd h
le_trans (inf true) y z h k = bottom_le z (le_known_r y z k)
le_trans (inf false) nan z h k = absurd h
le_trans (inf false) (inf false) z h k = k
le_trans (inf false) (inf true) z h k = absurd h
le_trans (inf false) (fin t n d) z h k = absurd h
le_trans (fin s m e) nan z h k = absurd h
le_trans (fin s m e) (inf true) z h k = absurd h
le_trans (fin s m e) (inf false) nan h k = absurd k
le_trans (fin s m e) (inf false) (inf false) h k = tt
le_trans (fin s m e) (inf false) (inf true) h k = absurd k
le_trans (fin s m e) (inf false) (fin u l c) h k = absurd k
le_trans (fin s m e) (fin t n d) nan h k = absurd k
le_trans (fin s m e) (fin t n d) (inf u) h k = k
le_trans (fin s m e) (fin t n d) (fin u l c) h k = le_trans_finite (fin s m e) (fin t n d) (fin u l c) tt tt tt h k

-- ---- below and not above exclude each other
asym_finite : (x y : Float) → T (finite x) → T (finite y) → T (lt x y) → T (le y x) → ⊥
asym_finite x y p q h k =
    let n = common x y y y p q q q in
    let H : Lt (sgn x) n.a (sgn y) n.b = lt→Lt n.vx n.vy h in
    let K : Le (sgn y) n.b (sgn x) n.a = le→Le n.vy n.vx k in
    omega arith

pub asym : (x y : Float) → T (lt x y) → T (le y x) → ⊥
unfolding le
asym nan y h k = h
asym (inf s) nan h k = h
asym (inf false) (inf t) h k = h
asym (inf true) (inf false) h k = k
asym (inf true) (inf true) h k = h
asym (inf false) (fin t n d) h k = h
asym (inf true) (fin t n d) h k = k
asym (fin s m e) nan h k = h
asym (fin s m e) (inf false) h k = k
asym (fin s m e) (inf true) h k = h
asym (fin s m e) (fin t n d) h k = asym_finite (fin s m e) (fin t n d) tt tt h k

-- neither above the other: equal
pub le_antisymm : (x y : Float) → T (le x y) → T (le y x) → T (eq x y)
unfolding le
le_antisymm x y h k = elim (or_split (lt x y) (eq x y) h) [ inl l ↦ absurd (asym x y l k) | inr e ↦ e ]

-- ---- off NaN, x is below y or y is at most x
lt_or_ge : (a b : ℕ) → (a < b) ⊎ (b ≤ a)
lt_or_ge a b = go (ltb a b) (ltb→lt a b) (nltb→le a b)
  where
    go : (t : Bool) → (T t → a < b) → (T (not t) → b ≤ a) → (a < b) ⊎ (b ≤ a)
    go true h k = inl (h tt)
    go false h k = inr (k tt)

split_finite : (x y : Float) → T (finite x) → T (finite y) → T (lt x y) ⊎ T (le y x)
split_finite x y p q =
    let n = common x y y y p q q q in
    elim (lt_or_ge (side (sgn x) n.a (sgn y) n.b) (side (sgn y) n.b (sgn x) n.a)) [ inl h ↦ inl (Lt→lt n.vx n.vy h) | inr h ↦ inr (Le→le n.vy n.vx h) ]

pub split : (x y : Float) → T (known x) → T (known y) → T (lt x y) ⊎ T (le y x)
unfolding le is_nan
split nan y p q = absurd p
split (inf false) y p q = inr (le_top y q)
split (inf true) nan p q = absurd q
split (inf true) (inf false) p q = inl tt
split (inf true) (inf true) p q = inr tt
split (inf true) (fin t n d) p q = inl tt
split (fin s m e) nan p q = absurd q
split (fin s m e) (inf false) p q = inl tt
split (fin s m e) (inf true) p q = inr tt
split (fin s m e) (fin t n d) p q = split_finite (fin s m e) (fin t n d) tt tt

-- off NaN, any two compare
pub le_total : (x y : Float) → T (known x) → T (known y) → T (le x y) ⊎ T (le y x)
le_total x y p q = elim (split x y p q) [ inl h ↦ inl (lt→le x y h) | inr h ↦ inr h ]

pub not_lt→le : (x y : Float) → T (known x) → T (known y) → T (not (lt x y)) → T (le y x)
not_lt→le x y p q n = elim (split x y p q) [ inl h ↦ absurd (T_not (lt x y) n h) | inr h ↦ h ]

not_le→lt : (x y : Float) → T (known x) → T (known y) → (T (le y x) → ⊥) → T (lt x y)
not_le→lt x y p q n = elim (split x y p q) [ inl h ↦ h | inr h ↦ absurd (n h) ]

-- the same of what a test gave
pub lt_true→le : (x y : Float) → lt x y ≡ true → T (le x y)
lt_true→le x y e = lt→le x y (subst T (sym e) tt)

pub lt_false→le : (x y : Float) → T (known x) → T (known y) → lt x y ≡ false → T (le y x)
lt_false→le x y p q e = not_lt→le x y p q (subst (λ (b : Bool). T (not b)) (sym e) tt)

-- ---- transitivity with `lt`
pub lt_le_trans : (x y z : Float) → T (lt x y) → T (le y z) → T (lt x z)
lt_le_trans x y z h k = not_le→lt x z (le_known_l x y (lt→le x y h)) (le_known_r y z k) (λ (g : T (le z x)). asym x y h (le_trans y z x k g))

pub le_lt_trans : (x y z : Float) → T (le x y) → T (lt y z) → T (lt x z)
le_lt_trans x y z h k = not_le→lt x z (le_known_l x y h) (le_known_r y z (lt→le y z k)) (λ (g : T (le z x)). asym y z k (le_trans z x y g h))

pub lt_trans : (x y z : Float) → T (lt x y) → T (lt y z) → T (lt x z)
lt_trans x y z h k = lt_le_trans x y z h (lt→le y z k)

-- ---- what lies between two finite values is finite
pub finite_between : (x a y : Float) → T (finite x) → T (finite y) → T (le x a) → T (le a y) → T (finite a)
unfolding is_nan
finite_between x nan y p q h k = le_known_r x nan h
finite_between x (inf false) y p q h k = asym y (inf false) (finite_inside y q).1 k
finite_between x (inf true) y p q h k = asym (inf true) x (finite_inside x p).0 h
finite_between x (fin s m e) y p q h k = tt
