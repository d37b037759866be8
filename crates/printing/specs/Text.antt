-- Document 01, "The job program": the lines that a job prints, as bytes. Assumes nothing.
use Rattle.std.specs.Prelude.{List, [], ◌∷◌, ◌++◌, ℕ}
use Rattle.std.specs.Float.Ieee.{to_bits}
use Rattle.std.specs.Float.{binary64}
use Rattle.written.specs.RadiusWalk.{Found}
use Rattle.written.specs.Totals.{Totals}
use Rattle.printing.specs.Numerals.{decimal, hexadecimal}

-- ASCII
abbrev pub space : List ℕ
space = 32 ∷ []

abbrev pub newline : List ℕ
newline = 10 ∷ []

-- `pairs`, `count`, `nearest`
abbrev pub pairs_word : List ℕ
pairs_word = 112 ∷ 97 ∷ 105 ∷ 114 ∷ 115 ∷ []

abbrev pub count_word : List ℕ
count_word = 99 ∷ 111 ∷ 117 ∷ 110 ∷ 116 ∷ []

abbrev pub nearest_word : List ℕ
nearest_word = 110 ∷ 101 ∷ 97 ∷ 114 ∷ 101 ∷ 115 ∷ 116 ∷ []

-- `refused `, `visits `, ` measured `, ` ruledout `, ` whole `
abbrev pub refused_word : List ℕ
refused_word = 114 ∷ 101 ∷ 102 ∷ 117 ∷ 115 ∷ 101 ∷ 100 ∷ 32 ∷ []

abbrev pub visits_word : List ℕ
visits_word = 118 ∷ 105 ∷ 115 ∷ 105 ∷ 116 ∷ 115 ∷ 32 ∷ []

abbrev pub measured_word : List ℕ
measured_word = 32 ∷ 109 ∷ 101 ∷ 97 ∷ 115 ∷ 117 ∷ 114 ∷ 101 ∷ 100 ∷ 32 ∷ []

abbrev pub ruledout_word : List ℕ
ruledout_word = 32 ∷ 114 ∷ 117 ∷ 108 ∷ 101 ∷ 100 ∷ 111 ∷ 117 ∷ 116 ∷ 32 ∷ []

abbrev pub whole_word : List ℕ
whole_word = 32 ∷ 119 ∷ 104 ∷ 111 ∷ 108 ∷ 101 ∷ 32 ∷ []

-- a refusal: `refused`, number, side
unfoldable pub refused_line : (number side : ℕ) → List ℕ
refused_line number side = refused_word ++ decimal number ++ space ++ decimal side ++ newline

-- first line: kind and number
unfoldable pub first_line : (kind : List ℕ) → ℕ → List ℕ
first_line kind n = kind ++ space ++ decimal n ++ newline

-- then left item, right item, distance bits
unfoldable pub line : Found → List ℕ
line x = decimal x.left ++ space ++ decimal x.right ++ space ++ hexadecimal (to_bits binary64 x.distance) ++ newline

unfoldable pub lines : List Found → List ℕ
lines [] = []
lines (x ∷ l) = line x ++ lines l

-- last line: totals
unfoldable pub totals_line : Totals → List ℕ
totals_line t = visits_word ++ decimal t.visits ++ measured_word ++ decimal t.measured ++ ruledout_word ++ decimal t.ruled_out ++ whole_word ++ decimal t.whole ++ newline
