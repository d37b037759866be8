-- Worked numbers: what the definitions give on closed rows, by computation. A number is its bit pattern, and the answers are a processor's own.
-- Fraction, below every law, names this file, so that a changed definition is refused here first. Assumes nothing.
use Rattle.std.specs.Prelude.{◌≡◌, refl, ℕ, Bool, true, false, List, [], ◌∷◌, map, get_or, length, Float}
use Rattle.std.specs.Float.{Format, binary32, binary64}
use Rattle.std.specs.Float.Ieee.{lt, eq, le, sub, of_bits, to_bits}
use Rattle.rounding.specs.Distance.{Row, zero₊, dist1, distance}
use Rattle.rounding.specs.Bounds.{lower, upper}

-- ---- patterns of binary64
abbrev NaN : ℕ
NaN = 0x7ff8000000000000

abbrev +∞ : ℕ
+∞ = 0x7ff0000000000000

abbrev -∞ : ℕ
-∞ = 0xfff0000000000000

abbrev -0 : ℕ
-0 = 0x8000000000000000

-- the smallest value above zero, and the largest finite one
abbrev least : ℕ
least = 0x0000000000000001

abbrev most : ℕ
most = 0x7fefffffffffffff

abbrev one : ℕ
one = 0x3ff0000000000000

abbrev three : ℕ
three = 0x4008000000000000

abbrev five : ℕ
five = 0x4014000000000000

abbrev seven : ℕ
seven = 0x401c000000000000

abbrev tenth : ℕ
tenth = 0x3fb999999999999a

abbrev fifth : ℕ
fifth = 0x3fc999999999999a

abbrev half : ℕ
half = 0x3fe0000000000000

-- axis by axis, one column of a row
abbrev column : {A : Type 0} → (A → ℕ) → A → List A → Row
column pick past axes d = of_bits binary64 (pick (get_or axes d past))

-- ---- the order: x, y, x < y, x == y, x <= y
orders : List (ℕ × ℕ × Bool × Bool × Bool)
orders =
    (NaN, NaN, false, false, false) ∷  -- a NaN is not even equal to itself
    (NaN, one, false, false, false) ∷  -- nor below a number
    (one, NaN, false, false, false) ∷  -- nor above one
    (-∞, +∞, true, false, true) ∷  -- -∞ is below +∞
    (+∞, +∞, false, true, true) ∷  -- +∞ equals itself
    (most, +∞, true, false, true) ∷  -- the largest finite value is below +∞
    (-0, 0x0, false, true, true) ∷  -- the zeros are equal, and neither is below the other
    (0x0, -0, false, true, true) ∷  -- the other way round
    (-0, least, true, false, true) ∷  -- the smallest value above zero
    (one, 0x3ff0000000000001, true, false, true) ∷  -- neighbours
    (0xbff0000000000000, 0xbff0000000000001, false, false, false) ∷  -- neighbours below zero, the other way round
    (0x3f847ae147ae147c, 0x3f847ae147ae147b, false, false, false) ∷  -- 0.1 * 0.1 is not at most 0.01
    []

abbrev compared : ℕ → ℕ → Bool × Bool × Bool
compared a b = let x = of_bits binary64 a in let y = of_bits binary64 b in (lt x y, eq x y, le x y)

orders_hold : map (λ r. compared r.0 r.1) orders ≡ map (λ r. (r.2, r.3, r.4)) orders
unfolding orders of_bits lt eq le
orders_hold = refl

-- ---- one axis: the format, x, y, the square of x - y
squares : List (Format × ℕ × ℕ × ℕ)
squares =
    (binary64, 0x0, tenth, 0x3f847ae147ae147c) ∷  -- 0.1 * 0.1 rounds to one step above 0.01
    (binary64, 0x4010000000000000, seven, 0x4022000000000000) ∷  -- 4 against 7: 9
    (binary64, 0xe974e718d7d7625a, 0x6974e718d7d7625a, +∞) ∷  -- an overflow to +∞
    (binary64, least, -0, 0x0) ∷  -- an underflow to +0
    (binary64, 0x0, -0, 0x0) ∷  -- the two zeros: +0
    (binary64, one, -0, one) ∷  -- 1 against -0: 1
    (binary64, +∞, one, +∞) ∷  -- +∞ less a number: +∞
    (binary64, +∞, +∞, NaN) ∷  -- +∞ less itself: a NaN
    (binary32, 0x0, 0x3dcccccd, 0x3c23d70b) ∷  -- binary32: 0.1 * 0.1
    (binary32, 0x7f7fffff, 0xff7fffff, 0x7f800000) ∷  -- an overflow to +∞
    (binary32, 0x00000001, 0x80000000, 0x0) ∷  -- an underflow to +0
    (binary32, 0x3f800001, 0x3eaaaaab, 0x3ee38e3c) ∷  -- 1 and a step, less a third
    []

abbrev squared : Format → ℕ → ℕ → ℕ
squared f a b = to_bits f (dist1 f (of_bits f a) (of_bits f b))

squares_hold : map (λ r. squared r.0 r.1 r.2) squares ≡ map (λ r. r.3) squares
unfolding squares of_bits to_bits dist1
squares_hold = refl

-- ---- all axes: by axis the coordinates of two points, then their distance
distances : List (List (ℕ × ℕ) × ℕ)
distances =
    ([], 0x0) ∷  -- no axis: +0
    ((-0, 0x0) ∷ [], 0x0) ∷  -- one axis, the two zeros: +0
    ((0x4010000000000000, seven) ∷ (0x4000000000000000, one) ∷ [], 0x4024000000000000) ∷  -- (4, 2) against (7, 1): 10
    ((0x0, tenth) ∷ (0x0, fifth) ∷ (0x0, half) ∷ [], 0x3fd3333333333333) ∷  -- 0.3; from the last axis it would be one step above
    ((0x1ca3529ba7d19eaf, 0x0) ∷ (0x0, 0x6126c2d4256ffcc3) ∷ [], +∞) ∷  -- an underflow, then an overflow
    ((0x4054483017447ad6, 0x404aa6a30fffe238) ∷ (0x4042a01b3e555fa4, 0x40543b167cf1edae) ∷ [], 0x40a4f3244a9b2475) ∷  -- two axes at random
    ((0xc052b2c01221a342, 0xc04c33266e00a0c8) ∷ (0xc0467ef4d1227cd7, 0xc04e3f1980c2a9d9) ∷ (0xc0366461ee88ba1c, 0xc04b5c4dff48ecfe) ∷ [], 0x40995f0fd2d44d1c) ∷  -- three
    ((0x4037a75f30b9ec14, 0xc03c0eb75042a31c) ∷ (0xc032c83565c8fbe0, 0xc045b444c3771760) ∷ (0x4034400435f4891c, 0xc0568186bcafe66b) ∷ (0x403073c819302e60, 0x403f022a08714310) ∷ [], 0x40ce925d46f076a9) ∷  -- four
    []

abbrev measured : List (ℕ × ℕ) → ℕ
measured axes = to_bits binary64 (distance binary64 (column (λ a. a.0) (NaN, NaN) axes) (column (λ a. a.1) (NaN, NaN) axes) (length axes))

distances_hold : map (λ r. measured r.0) distances ≡ map (λ r. r.1) distances
unfolding distances of_bits to_bits distance
distances_hold = refl

-- ---- lower bounds: by axis the left box's min and max and the right box's min and max, then the bound
abbrev Sides : Type 0
Sides = ℕ × ℕ × ℕ × ℕ

abbrev bound : (Row → Row → Row → Row → ℕ → Float) → List Sides → ℕ
bound of axes =
    let side : (Sides → ℕ) → Row = λ pick. column pick (NaN, NaN, NaN, NaN) axes in
    to_bits binary64 (of (side (λ a. a.0)) (side (λ a. a.1)) (side (λ a. a.2)) (side (λ a. a.3)) (length axes))

lowers : List (List Sides × ℕ)
lowers =
    ((0x0, one, five, seven) ∷ [], 0x4030000000000000) ∷  -- 0 to 1 against 5 to 7: the left box lies below, 16
    ((five, seven, 0x0, one) ∷ [], 0x4030000000000000) ∷  -- and above, 16
    ((0x0, five, three, seven) ∷ [], 0x0) ∷  -- overlapping: +0
    ((0x0, three, three, seven) ∷ [], 0x0) ∷  -- touching, the left box below: +0
    ((three, seven, 0x0, three) ∷ [], 0x0) ∷  -- touching, the left box above: +0
    ((-∞, one, five, +∞) ∷ [], 0x4030000000000000) ∷  -- the outer sides infinite: 16
    ((five, +∞, -∞, one) ∷ [], 0x4030000000000000) ∷  -- the same from above
    ((-∞, +∞, five, seven) ∷ [], 0x0) ∷  -- an endless box leaves no gap
    ((0x4024000000000000, 0x0, five, one) ∷ [], 0x4039000000000000) ∷  -- inside out, with a gap on either side: the left max is tested first, 25 and not 81
    ((0xe974e718d7d7625a, 0xe974e718d7d7625a, 0x6974e718d7d7625a, 0x6974e718d7d7625a) ∷ [], +∞) ∷  -- an overflow to +∞
    ((0x0, one, five, seven) ∷ (five, seven, 0x0, one) ∷ [], 0x4040000000000000) ∷  -- two axes, a gap on each side: 32
    ((0x0, 0x0, tenth, tenth) ∷ (0x0, 0x0, fifth, fifth) ∷ (0x0, 0x0, half, half) ∷ [], 0x3fd3333333333333) ∷  -- three axes: 0.3; from the last axis it would be one step above the distance
    []

lowers_hold : map (λ r. bound (lower binary64) r.0) lowers ≡ map (λ r. r.1) lowers
unfolding lowers of_bits to_bits lower lt
lowers_hold = refl

-- ---- upper bounds: the same columns
uppers : List (List Sides × ℕ)
uppers =
    ((0x0, one, five, seven) ∷ [], 0x4048800000000000) ∷  -- 0 to 1 against 5 to 7: from the left min to the right max, 49
    ((five, seven, 0x0, one) ∷ [], 0x4048800000000000) ∷  -- from the left max to the right min, 49
    ((0x0, seven, one, five) ∷ [], 0x4042000000000000) ∷  -- the left box around the right: 36
    ((0x0, one, five, 0x4018000000000000) ∷ (0x0, 0x4000000000000000, three, three) ∷ [], 0x4046800000000000) ∷  -- two axes: 36 + 9
    ((0x0, 0x0, tenth, tenth) ∷ (0x0, 0x0, fifth, fifth) ∷ (0x0, 0x0, half, half) ∷ [], 0x3fd3333333333333) ∷  -- three axes: 0.3, in axis order
    ((-∞, one, five, seven) ∷ [], +∞) ∷  -- the left min infinite: +∞
    ((0x0, +∞, five, seven) ∷ [], +∞) ∷  -- the left max
    ((0x0, one, -∞, seven) ∷ [], +∞) ∷  -- the right min
    ((0x0, one, five, +∞) ∷ [], +∞) ∷  -- the right max
    ((NaN, one, five, seven) ∷ [], +∞) ∷  -- the left min a NaN: +∞ too, and here the ends alone would give 16
    ((0x0, NaN, five, seven) ∷ [], +∞) ∷  -- the left max: here and below the ends alone would give another answer
    ((0x0, one, NaN, seven) ∷ [], +∞) ∷  -- the right min
    ((0x0, one, five, NaN) ∷ [], +∞) ∷  -- the right max
    ((-∞, three, one, -∞) ∷ [], +∞) ∷  -- left min and right max the same infinity, whose difference is a NaN
    ((0x0, +∞, +∞, seven) ∷ [], +∞) ∷  -- left max and right min the same infinity
    ((0x0, one, five, 0x4018000000000000) ∷ (NaN, 0x4000000000000000, three, three) ∷ [], +∞) ∷  -- two axes, the last alone not finite
    ((NaN, one, five, 0x4018000000000000) ∷ (0x0, 0x4000000000000000, three, three) ∷ [], +∞) ∷  -- the first alone
    []

uppers_hold : map (λ r. bound (upper binary64) r.0) uppers ≡ map (λ r. r.1) uppers
unfolding uppers of_bits to_bits upper lt
uppers_hold = refl

-- ---- the finite test by arithmetic: the format, x, whether x - x == 0
finites : List (Format × ℕ × Bool)
finites =
    (binary64, NaN, false) ∷  -- not a number
    (binary64, +∞, false) ∷  -- the infinities
    (binary64, -∞, false) ∷  -- are not finite
    (binary64, 0x0, true) ∷  -- the zeros
    (binary64, -0, true) ∷  -- are
    (binary64, least, true) ∷  -- a subnormal
    (binary64, most, true) ∷  -- the largest
    (binary32, 0x7fc00000, false) ∷  -- the same in binary32: NaN
    (binary32, 0x7f800000, false) ∷  -- +∞
    (binary32, 0xff800000, false) ∷  -- -∞
    (binary32, 0x00000000, true) ∷  -- +0
    (binary32, 0x80000000, true) ∷  -- -0
    (binary32, 0x00000001, true) ∷  -- a subnormal
    (binary32, 0x7f7fffff, true) ∷  -- the largest
    []

abbrev tested : Format → ℕ → Bool
tested f a = let x = of_bits f a in eq (sub f x x) zero₊

finites_hold : map (λ r. tested r.0 r.1) finites ≡ map (λ r. r.2) finites
unfolding finites of_bits sub eq
finites_hold = refl
