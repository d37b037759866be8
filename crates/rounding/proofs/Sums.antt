-- Rounded sums of values without a sign: a sum grows with each part, in either format and with overflow. Assumes nothing.
use Rattle.std.specs.Prelude.{◌≡◌, refl, ℕ, zero, suc, ◌+◌, ◌*◌, ◌<◌, true, false, T, Float}
use Rattle.std.proofs.Common.{ap, ◌∙◌, add-le-add, mul-le-mul_right, arith}
use Rattle.std.specs.Float.{nan, inf, fin, Format}
use Rattle.std.specs.Float.Ieee.{up, down, round, sum, add, le}
use Rattle.std.specs.Float.Ieee.Scale.{finite, round_same}
use Rattle.std.specs.Float.Ieee.Order.{round_mono}
use Rattle.std.specs.Float.Ieee.Positive.{num, den}
use Rattle.rounding.specs.Distance.{zero₊, summed}
use Rattle.rounding.proofs.Fraction.{Val, both_pos, left, right, sum_scale, common}
use Rattle.rounding.proofs.Order.{le_top, le_refl}
use Rattle.rounding.proofs.Signs.{plain, plain_known, le→≤, round_plain}

-- ---- of two
add_is : (f : Format) (x y : Float) → T (plain x) → T (plain y) → T (finite x) → T (finite y) → add f x y ≡ round f false (num x * den y + num y * den x) (den x * den y)
unfolding add sum
add_is f nan y i j p q = absurd p
add_is f (inf s) y i j p q = absurd p
add_is f (fin s m e) nan i j p q = absurd q
add_is f (fin s m e) (inf t) i j p q = absurd q
add_is f (fin true m e) (fin t n d) i j p q = absurd i
add_is f (fin false m e) (fin true n d) i j p q = absurd j
add_is f (fin false m e) (fin false n d) i j p q = refl

-- two values without a sign, over a denominator that they share
add_at : (f : Format) (x y : Float) {a b N : ℕ} → T (plain x) → T (plain y) → Val x a N → Val y b N → add f x y ≡ round f false (a + b) N
add_at f x y {a} {b} {N} i j p q =
    add_is f x y i j p.bounded q.bounded
    ∙ round_same f false _ (den x * den y) _ N (both_pos p q) p.under (sum_scale (num x * den y) (num y * den x) a b N (den x * den y) (left p q) (right p q))

add_plain : (f : Format) (x y : Float) → T (plain x) → T (plain y) → T (plain (add f x y))
unfolding add sum
add_plain f nan y i j = i
add_plain f (inf true) y i j = absurd i
add_plain f (inf false) nan i j = j
add_plain f (inf false) (inf true) i j = j
add_plain f (inf false) (inf false) i j = tt
add_plain f (inf false) (fin t n d) i j = tt
add_plain f (fin s m e) nan i j = j
add_plain f (fin s m e) (inf t) i j = j
add_plain f (fin true m e) (fin t n d) i j = absurd i
add_plain f (fin false m e) (fin true n d) i j = absurd j
add_plain f (fin false m e) (fin false n d) i j = round_plain f (m * up e * down d + n * up d * down e) (down e * down d)

add_mono_finite : (f : Format) (p q p' q' : Float) → T (finite p) → T (finite q) → T (finite p') → T (finite q')
    → T (plain p) → T (plain q) → T (plain p') → T (plain q') → T (le p p') → T (le q q') → T (le (add f p q) (add f p' q'))
add_mono_finite f p q p' q' fp fq fp' fq' i j i' j' h k =
    let n = common p q p' q' fp fq fp' fq' in
    rw (add_at f p q i j n.vx n.vy, add_at f p' q' i' j' n.vz n.vw)
    (round_mono f _ n.over _ n.over n.vx.under n.vx.under (mul-le-mul_right n.over (add-le-add (le→≤ i i' n.vx n.vz h) (le→≤ j j' n.vy n.vw k))))

-- a sum with an infinity in it
add_top_l : (f : Format) (y : Float) → T (plain y) → add f (inf false) y ≡ inf false
unfolding add
add_top_l f nan j = absurd j
add_top_l f (inf true) j = absurd j
add_top_l f (inf false) j = refl
add_top_l f (fin t n d) j = refl

add_top_r : (f : Format) (x : Float) → T (plain x) → add f x (inf false) ≡ inf false
unfolding add
add_top_r f nan j = absurd j
add_top_r f (inf true) j = absurd j
add_top_r f (inf false) j = refl
add_top_r f (fin t n d) j = refl

-- a sum grows with each of its parts
add_mono : (f : Format) (p q p' q' : Float) → T (plain p) → T (plain q) → T (plain p') → T (plain q') → T (le p p') → T (le q q') → T (le (add f p q) (add f p' q'))
add_mono f p q nan q' i j i' j' h k = absurd i'
add_mono f p q (inf true) q' i j i' j' h k = absurd i'
add_mono f p q (inf false) q' i j i' j' h k = rw (add_top_l f q' j') (le_top (add f p q) (plain_known (add f p q) (add_plain f p q i j)))
add_mono f p q (fin u l c) nan i j i' j' h k = absurd j'
add_mono f p q (fin u l c) (inf true) i j i' j' h k = absurd j'
add_mono f p q (fin u l c) (inf false) i j i' j' h k = rw (add_top_r f (fin u l c) i') (le_top (add f p q) (plain_known (add f p q) (add_plain f p q i j)))
add_mono f nan q (fin u l c) (fin v o g) i j i' j' h k = absurd i
add_mono f (inf true) q (fin u l c) (fin v o g) i j i' j' h k = absurd i
add_mono f (inf false) q (fin u l c) (fin v o g) i j i' j' h k = absurd (unfold le in h)
add_mono f (fin s m e) nan (fin u l c) (fin v o g) i j i' j' h k = absurd j
add_mono f (fin s m e) (inf true) (fin u l c) (fin v o g) i j i' j' h k = absurd j
add_mono f (fin s m e) (inf false) (fin u l c) (fin v o g) i j i' j' h k = absurd (unfold le in k)
add_mono f (fin s m e) (fin t n d) (fin u l c) (fin v o g) i j i' j' h k = add_mono_finite f (fin s m e) (fin t n d) (fin u l c) (fin v o g) tt tt tt tt i j i' j' h k

-- ---- of many, in order
pub summed_plain : (f : Format) (t : ℕ → Float) (k : ℕ) → ((i : ℕ) → i < k → T (plain (t i))) → T (plain (summed f t k))
unfolding summed
summed_plain f t zero p = tt
summed_plain f t (suc k) p = add_plain f (summed f t k) (t k) (summed_plain f t k (λ (i : ℕ) (h : i < k). p i (omega arith))) (p k (omega arith))

-- sums keep the order of their parts
pub summed_mono : (f : Format) (t u : ℕ → Float) (k : ℕ) → ((i : ℕ) → i < k → T (plain (t i))) → ((i : ℕ) → i < k → T (plain (u i)))
    → ((i : ℕ) → i < k → T (le (t i) (u i))) → T (le (summed f t k) (summed f u k))
unfolding summed
summed_mono f t u zero p q h = le_refl zero₊ (plain_known zero₊ tt)
summed_mono f t u (suc k) p q h =
    add_mono f (summed f t k) (t k) (summed f u k) (u k)
    (summed_plain f t k (λ (i : ℕ) (l : i < k). p i (omega arith))) (p k (omega arith)) (summed_plain f u k (λ (i : ℕ) (l : i < k). q i (omega arith))) (q k (omega arith))
    (summed_mono f t u k (λ (i : ℕ) (l : i < k). p i (omega arith)) (λ (i : ℕ) (l : i < k). q i (omega arith)) (λ (i : ℕ) (l : i < k). h i (omega arith)))
    (h k (omega arith))

-- equal parts, equal sums
pub summed_same : (f : Format) (t u : ℕ → Float) (k : ℕ) → ((i : ℕ) → i < k → t i ≡ u i) → summed f t k ≡ summed f u k
unfolding summed
summed_same f t u zero h = refl
summed_same f t u (suc k) h = ap (λ (z : Float). add f z (t k)) (summed_same f t u k (λ (i : ℕ) (l : i < k). h i (omega arith))) ∙ ap (add f (summed f u k)) (h k (omega arith))
