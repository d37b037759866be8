-- Document 01, "The job program": example A1 as a job of 188 bytes prints the text given there, by computation. Assumes nothing.
use Rattle.std.specs.Prelude.{◌≡◌, refl, List, [], ◌∷◌, ◌++◌, ℕ}
use Rattle.std.specs.Float.Ieee.{of_bits, to_bits}
use Rattle.written.specs.LentTree.{levels}
use Rattle.written.specs.Check.{every, down, refusal}
use Rattle.written.specs.Visits.{runs}
use Rattle.written.specs.Totals.{walk_totals}
use Rattle.written.specs.Answers.{pairs_in}
use Rattle.reading.specs.Little.{number16, number32, number64, in_a_row}
use Rattle.reading.specs.Header.{job_refusal}
use Rattle.printing.specs.Numerals.{decimal, hexadecimal}
use Rattle.printing.specs.Text.{first_line, line, lines, totals_line}
use Rattle.job.specs.Printed.{pairs_text, printed}

-- KDJ, version 1, K = 2, mode 0, a zero byte, radius 10
abbrev header : List ℕ
header = 75 ∷ 68 ∷ 74 ∷ 1 ∷ 0 ∷ 2 ∷ 0 ∷ 0 ∷ 0 ∷ 0 ∷ 0 ∷ 0 ∷ 0 ∷ 0 ∷ 36 ∷ 64 ∷ []

-- left: 2 leaves, 4 points, starts 0, 2, 4, stems 0 and 4
abbrev left : List ℕ
left = 2 ∷ 0 ∷ 0 ∷ 0 ∷ 4 ∷ 0 ∷ 0 ∷ 0 ∷ 0 ∷ 0 ∷ 0 ∷ 0 ∷ 2 ∷ 0 ∷ 0 ∷ 0 ∷ 4 ∷ 0 ∷ 0 ∷ 0 ∷ 0 ∷ 0 ∷ 0 ∷ 0 ∷ 0 ∷ 0 ∷ 0 ∷ 0 ∷ 0 ∷ 0 ∷ 0 ∷ 0 ∷ 0 ∷ 0 ∷ 16 ∷ 64 ∷ []

-- its items 10 to 13, and the coordinates 1, 4, 4, 7 and 1, 2, 6, 1
abbrev left_points : List ℕ
left_points = 10 ∷ 0 ∷ 0 ∷ 0 ∷ 11 ∷ 0 ∷ 0 ∷ 0 ∷ 12 ∷ 0 ∷ 0 ∷ 0 ∷ 13 ∷ 0 ∷ 0 ∷ 0 ∷ 0 ∷ 0 ∷ 0 ∷ 0 ∷ 0 ∷ 0 ∷ 240 ∷ 63 ∷ 0 ∷ 0 ∷ 0 ∷ 0 ∷ 0 ∷ 0 ∷ 16 ∷ 64 ∷ 0 ∷ 0 ∷ 0 ∷ 0 ∷ 0 ∷ 0 ∷ 16 ∷ 64 ∷ 0 ∷ 0 ∷ 0 ∷ 0 ∷ 0 ∷ 0 ∷ 28 ∷ 64 ∷ 0 ∷ 0 ∷ 0 ∷ 0 ∷ 0 ∷ 0 ∷ 240 ∷ 63 ∷ 0 ∷ 0 ∷ 0 ∷ 0 ∷ 0 ∷ 0 ∷ 0 ∷ 64 ∷ 0 ∷ 0 ∷ 0 ∷ 0 ∷ 0 ∷ 0 ∷ 24 ∷ 64 ∷ 0 ∷ 0 ∷ 0 ∷ 0 ∷ 0 ∷ 0 ∷ 240 ∷ 63 ∷ []

-- right: 1 leaf, 2 points, starts 0 and 2, items 20 and 21, coordinates 1, 7 and 5, 1
abbrev right : List ℕ
right = 1 ∷ 0 ∷ 0 ∷ 0 ∷ 2 ∷ 0 ∷ 0 ∷ 0 ∷ 0 ∷ 0 ∷ 0 ∷ 0 ∷ 2 ∷ 0 ∷ 0 ∷ 0 ∷ 20 ∷ 0 ∷ 0 ∷ 0 ∷ 21 ∷ 0 ∷ 0 ∷ 0 ∷ 0 ∷ 0 ∷ 0 ∷ 0 ∷ 0 ∷ 0 ∷ 240 ∷ 63 ∷ 0 ∷ 0 ∷ 0 ∷ 0 ∷ 0 ∷ 0 ∷ 28 ∷ 64 ∷ 0 ∷ 0 ∷ 0 ∷ 0 ∷ 0 ∷ 0 ∷ 20 ∷ 64 ∷ 0 ∷ 0 ∷ 0 ∷ 0 ∷ 0 ∷ 0 ∷ 240 ∷ 63 ∷ []

abbrev pub a1 : List ℕ
a1 = header ++ left ++ left_points ++ right

-- pairs 3
abbrev first : List ℕ
first = 112 ∷ 97 ∷ 105 ∷ 114 ∷ 115 ∷ 32 ∷ 51 ∷ 10 ∷ []

-- 11 21 4024000000000000
abbrev second : List ℕ
second = 49 ∷ 49 ∷ 32 ∷ 50 ∷ 49 ∷ 32 ∷ 52 ∷ 48 ∷ 50 ∷ 52 ∷ 48 ∷ 48 ∷ 48 ∷ 48 ∷ 48 ∷ 48 ∷ 48 ∷ 48 ∷ 48 ∷ 48 ∷ 48 ∷ 48 ∷ 10 ∷ []

-- 12 20 4024000000000000
abbrev third : List ℕ
third = 49 ∷ 50 ∷ 32 ∷ 50 ∷ 48 ∷ 32 ∷ 52 ∷ 48 ∷ 50 ∷ 52 ∷ 48 ∷ 48 ∷ 48 ∷ 48 ∷ 48 ∷ 48 ∷ 48 ∷ 48 ∷ 48 ∷ 48 ∷ 48 ∷ 48 ∷ 10 ∷ []

-- 13 21 0000000000000000
abbrev fourth : List ℕ
fourth = 49 ∷ 51 ∷ 32 ∷ 50 ∷ 49 ∷ 32 ∷ 48 ∷ 48 ∷ 48 ∷ 48 ∷ 48 ∷ 48 ∷ 48 ∷ 48 ∷ 48 ∷ 48 ∷ 48 ∷ 48 ∷ 48 ∷ 48 ∷ 48 ∷ 48 ∷ 10 ∷ []

-- visits 3 measured 8 ruledout 0 whole 0
abbrev last : List ℕ
last = 118 ∷ 105 ∷ 115 ∷ 105 ∷ 116 ∷ 115 ∷ 32 ∷ 51 ∷ 32 ∷ 109 ∷ 101 ∷ 97 ∷ 115 ∷ 117 ∷ 114 ∷ 101 ∷ 100 ∷ 32 ∷ 56 ∷ 32 ∷ 114 ∷ 117 ∷ 108 ∷ 101 ∷ 100 ∷ 111 ∷ 117 ∷ 116 ∷ 32 ∷ 48 ∷ 32 ∷ 119 ∷ 104 ∷ 111 ∷ 108 ∷ 101 ∷ 32 ∷ 48 ∷ 10 ∷ []

pub a1_prints : printed a1 ≡ first ++ second ++ third ++ fourth ++ last
unfolding job_refusal number16 number32 number64 in_a_row levels of_bits every down refusal runs pairs_in walk_totals pairs_text first_line lines line totals_line decimal hexadecimal to_bits
a1_prints = refl
