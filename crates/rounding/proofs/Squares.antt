-- The rounded difference of two finite values and its rounded square: it grows with the gap, it has no sign, and it does not turn on which of the two is taken away.
-- In either format, with overflow to an infinity. Assumes nothing.
use Rattle.std.specs.Prelude.{◌≡◌, refl, ℕ, ◌+◌, ◌-◌, ◌*◌, ◌≤◌, ◌<◌, Bool, true, false, not, cond, T, ltb, Float}
use Rattle.std.proofs.Common.{sym, ap, ◌∙◌, add-mul, mul_comm, mul-pos, mul-le-mul, mul-le-mul_right, arith, ltb→lt, nltb→le}
use Rattle.std.proofs.Math.Nat.{mul-sub, mul-mul-mul_comm}
use Rattle.std.specs.Float.{nan, inf, fin, Format}
use Rattle.std.specs.Float.Ieee.{up, down, round, sum, sub, mul, le}
use Rattle.std.specs.Float.Ieee.Fits.{down_pos}
use Rattle.std.specs.Float.Ieee.Scale.{finite, round_same}
use Rattle.std.specs.Float.Ieee.Order.{round_mono}
use Rattle.std.specs.Float.Ieee.Positive.{num, den}
use Rattle.rounding.proofs.Fraction.{sgn, Val, Le, side, side_scale, both_pos, left, right, le→Le, common}
use Rattle.rounding.specs.Distance.{dist1}
use Rattle.rounding.proofs.Order.{le_top}
use Rattle.rounding.proofs.Signs.{plain, plain_known, abs, cross_le, round_plain, round_abs}

-- ---- how far ±a is from ±b
abbrev diff : ℕ → ℕ → ℕ
diff a b = (a - b) + (b - a)

abbrev pub gap : Bool → ℕ → Bool → ℕ → ℕ
gap s a t b = diff (side s a t b) (side t b s a)

diff_scale : (A B a b N D : ℕ) → A * N ≡ a * D → B * N ≡ b * D → diff A B * N ≡ diff a b * D
diff_scale A B a b N D p q = rw (spread A B N, spread a b D, p, q)
  where
    sub_mul : (u v k : ℕ) → (u - v) * k ≡ u * k - v * k
    sub_mul u v k = mul_comm (u - v) k ∙ mul-sub k u v ∙ rw (mul_comm k u, mul_comm k v)

    spread : (u v k : ℕ) → diff u v * k ≡ diff (u * k) (v * k)
    spread u v k = rw (add-mul (u - v) (v - u) k, sub_mul u v k, sub_mul v u k)

gap_scale : (s t : Bool) (A B a b N D : ℕ) → A * N ≡ a * D → B * N ≡ b * D → gap s A t B * N ≡ gap s a t b * D
gap_scale s t A B a b N D p q = diff_scale (side s A t B) (side t B s A) (side s a t b) (side t b s a) N D (side_scale s A t B a b N D p q) (side_scale t B s A b a N D q p)

-- ---- the difference, with its sign left off, is the gap rounded
-- of two like signs: the smaller is taken from the larger, whatever sign that gives
sum_like : (f : Format) (s t : Bool) (a b c : ℕ) → abs (cond (ltb a b) (round f s (b - a) c) (round f t (a - b) c)) ≡ round f false (diff a b) c
sum_like f s t a b c = go (ltb a b) (ltb→lt a b) (nltb→le a b)
  where
    at : {x y : ℕ} → x ≡ y → round f false x c ≡ round f false y c
    at e = ap (λ (z : ℕ). round f false z c) e

    go : (l : Bool) → (T l → a < b) → (T (not l) → b ≤ a) → abs (cond l (round f s (b - a) c) (round f t (a - b) c)) ≡ round f false (diff a b) c
    go true h k = let e : b - a ≡ diff a b = omega (arith, h tt) in round_abs f s (b - a) c ∙ at e
    go false h k = let e : a - b ≡ diff a b = omega (arith, k tt) in round_abs f t (a - b) c ∙ at e

-- `sum` with the second operand's sign turned
sum_abs : (f : Format) (s : Bool) (a : ℕ) (t : Bool) (b c : ℕ) → abs (sum f s a (not t) b c) ≡ round f false (gap s a t b) c
unfolding sum
sum_abs f false a true b c = let e : a + b ≡ gap false a true b = omega arith in round_abs f false (a + b) c ∙ ap (λ (z : ℕ). round f false z c) e
sum_abs f true a false b c = let e : a + b ≡ gap true a false b = omega arith in round_abs f true (a + b) c ∙ ap (λ (z : ℕ). round f false z c) e
sum_abs f false a false b c = let e : diff a b ≡ gap false a false b = omega arith in sum_like f true false a b c ∙ ap (λ (z : ℕ). round f false z c) e
sum_abs f true a true b c = let e : diff a b ≡ gap true a true b = omega arith in sum_like f false (ltb b a) a b c ∙ ap (λ (z : ℕ). round f false z c) e

sub_is : (f : Format) (x y : Float) → T (finite x) → T (finite y) → abs (sub f x y) ≡ round f false (gap (sgn x) (num x * den y) (sgn y) (num y * den x)) (den x * den y)
unfolding sub
sub_is f nan y p q = absurd p
sub_is f (inf s) y p q = absurd p
sub_is f (fin s m e) nan p q = absurd q
sub_is f (fin s m e) (inf t) p q = absurd q
sub_is f (fin s m e) (fin t n d) p q = sum_abs f s (m * up e * down d) t (n * up d * down e) (down e * down d)

-- over any denominator that the two share
pub sub_abs : (f : Format) {x y : Float} {a b N : ℕ} → Val x a N → Val y b N → abs (sub f x y) ≡ round f false (gap (sgn x) a (sgn y) b) N
sub_abs f {x} {y} {a} {b} {N} p q =
    sub_is f x y p.bounded q.bounded
    ∙ round_same f false _ (den x * den y) _ N (both_pos p q) p.under (gap_scale (sgn x) (sgn y) (num x * den y) (num y * den x) a b N (den x * den y) (left p q) (right p q))

sub_plain : (f : Format) (x y : Float) → T (finite x) → T (finite y) → T (plain (abs (sub f x y)))
sub_plain f x y p q = rw (sub_is f x y p q) (round_plain f _ _)

-- |a - b| ≤ |x - y| where x ≤ a ≤ b ≤ y
sub_mono : (f : Format) (x a b y : Float) → T (finite x) → T (finite a) → T (finite b) → T (finite y)
    → T (le x a) → T (le a b) → T (le b y) → T (le (abs (sub f a b)) (abs (sub f x y)))
sub_mono f x a b y p q r s h k l =
    let n = common x a b y p q r s in
    let H : Le (sgn x) n.a (sgn a) n.b = le→Le n.vx n.vy h in
    let K : Le (sgn a) n.b (sgn b) n.c = le→Le n.vy n.vz k in
    let L : Le (sgn b) n.c (sgn y) n.d = le→Le n.vz n.vw l in
    let wider : gap (sgn a) n.b (sgn b) n.c ≤ gap (sgn x) n.a (sgn y) n.d = omega arith in
    rw (sub_abs f n.vy n.vz, sub_abs f n.vx n.vw) (round_mono f _ n.over _ n.over n.vx.under n.vx.under (mul-le-mul_right n.over wider))

-- ---- the square
abbrev square : Format → Float → Float
square f x = mul f x x

square_abs : (f : Format) (x : Float) → square f x ≡ square f (abs x)
unfolding mul
square_abs f nan = refl
square_abs f (inf false) = refl
square_abs f (inf true) = refl
square_abs f (fin false m e) = refl
square_abs f (fin true m e) = refl

square_plain : (f : Format) (x : Float) → T (plain x) → T (plain (square f x))
unfolding mul
square_plain f nan h = h
square_plain f (inf true) h = absurd h
square_plain f (inf false) h = tt
square_plain f (fin true m e) h = absurd h
square_plain f (fin false m e) h = round_plain f (m * up e * (m * up e)) (down e * down e)

square_mono : (f : Format) (x y : Float) → T (plain x) → T (plain y) → T (le x y) → T (le (square f x) (square f y))
unfolding mul le
square_mono f x nan p q h = absurd q
square_mono f x (inf true) p q h = absurd q
square_mono f x (inf false) p q h = le_top (square f x) (plain_known (square f x) (square_plain f x p))
square_mono f nan (fin t n d) p q h = absurd p
square_mono f (inf true) (fin t n d) p q h = absurd p
square_mono f (inf false) (fin t n d) p q h = absurd h
square_mono f (fin true m e) (fin t n d) p q h = absurd p
square_mono f (fin false m e) (fin true n d) p q h = absurd q
square_mono f (fin false m e) (fin false n d) p q h =
    let A = m * up e in
    let B = n * up d in
    let g : A * down d ≤ B * down e = cross_le (fin false m e) (fin false n d) tt tt p q h in
    round_mono f (A * A) (down e * down e) (B * B) (down d * down d) (mul-pos (down_pos e) (down_pos e)) (mul-pos (down_pos d) (down_pos d))
    (rw (mul-mul-mul_comm A A (down d) (down d), mul-mul-mul_comm B B (down e) (down e)) (mul-le-mul g g))

-- ---- one axis of a distance: the square of x - y
dist1_abs : (f : Format) (x y : Float) → dist1 f x y ≡ square f (abs (sub f x y))
unfolding dist1
dist1_abs f x y = square_abs f (sub f x y)

-- it is no NaN, and not negative
pub dist1_plain : (f : Format) (x y : Float) → T (finite x) → T (finite y) → T (plain (dist1 f x y))
dist1_plain f x y p q = rw dist1_abs (square_plain f (abs (sub f x y)) (sub_plain f x y p q))

-- it grows with the gap, overflow included: x ≤ a ≤ b ≤ y
pub dist1_mono : (f : Format) (x a b y : Float) → T (finite x) → T (finite a) → T (finite b) → T (finite y)
    → T (le x a) → T (le a b) → T (le b y) → T (le (dist1 f a b) (dist1 f x y))
dist1_mono f x a b y p q r s h k l =
    rw (dist1_abs f a b, dist1_abs f x y)
    (square_mono f (abs (sub f a b)) (abs (sub f x y)) (sub_plain f a b q r) (sub_plain f x y p s) (sub_mono f x a b y p q r s h k l))

-- ---- which of the two is taken away does not matter, of any two values, NaN and the infinities included
sub_sym_finite : (f : Format) (x y : Float) → T (finite x) → T (finite y) → abs (sub f x y) ≡ abs (sub f y x)
sub_sym_finite f x y p q =
    let n = common x y y y p q q q in
    let e : gap (sgn x) n.a (sgn y) n.b ≡ gap (sgn y) n.b (sgn x) n.a = omega arith in
    sub_abs f n.vx n.vy ∙ ap (λ (z : ℕ). round f false z n.over) e ∙ sym (sub_abs f n.vy n.vx)

sub_sym : (f : Format) (x y : Float) → abs (sub f x y) ≡ abs (sub f y x)
unfolding sub
sub_sym f nan nan = refl
sub_sym f nan (inf t) = refl
sub_sym f nan (fin t n d) = refl
sub_sym f (inf s) nan = refl
sub_sym f (inf false) (inf false) = refl
sub_sym f (inf false) (inf true) = refl
sub_sym f (inf true) (inf false) = refl
sub_sym f (inf true) (inf true) = refl
sub_sym f (inf s) (fin t n d) = refl
sub_sym f (fin s m e) nan = refl
sub_sym f (fin s m e) (inf t) = refl
sub_sym f (fin s m e) (fin t n d) = sub_sym_finite f (fin s m e) (fin t n d) tt tt

-- as data
pub dist1_sym : (f : Format) (x y : Float) → dist1 f x y ≡ dist1 f y x
dist1_sym f x y = dist1_abs f x y ∙ ap (square f) (sub_sym f x y) ∙ sym (dist1_abs f y x)
