-- What the code prints: of an answer the lines of its first places, of a job its text. Assumes nothing.
use Rattle.std.specs.Prelude.{◌≡◌, List, ℕ, zero, suc, ◌≤◌, length, Float}
use Rattle.written.specs.Answers.{stored}
use Rattle.reading.specs.Header.{axes, right_at}
use Rattle.reading.specs.Lays.{Lays}
use Rattle.reading.specs.declared.layout.Layout.{Layout}
use Rattle.printing.specs.Puts.{Puts}
use Rattle.job.specs.Printed.{printed}
use Rattle.join.specs.Answering.{Held, answer_of}

-- a job within the limits, and where its trees lie in it
pub record Taken (s : List ℕ) (l r : Layout) : Type 0 where
  pub header_held : 16 ≤ length s
  pub limited : length s ≤ 16384
  pub left_lies : Lays (axes s) s 16 l
  pub right_lies : Lays (axes s) s (right_at s) r

-- how many lines: those found, none of a refusal
abbrev pub lines_by : (number : ℕ) → ℕ → ℕ
lines_by zero found = found
lines_by (suc n) found = 0

abbrev pub lines_of : Held → ℕ
lines_of a = lines_by (answer_of a).number (answer_of a).found

-- n lines of a kind can be printed
pub record Printable (n : ℕ) (kind lefts rights : List ℕ) (distances : List Float) : Type 0 where
  pub short : length kind ≤ 8
  pub few : n ≤ 1024
  pub lefts_held : n ≤ length lefts
  pub rights_held : n ≤ length rights
  pub distances_held : n ≤ length distances

-- a whole text, from the buffer's first place on; none is longer than 65,536 bytes
pub record Prints (before : List ℕ) (t : List ℕ) (after : List ℕ) (n : ℕ) : Type 0 where
  pub put : Puts before 0 t after n
  pub bounded : n ≤ 65536

-- a job, the buffer before and after, and the number answered: the text stored as far as there is room, and how long it is
abbrev pub Ran : (s before after : List ℕ) → ℕ → Type 0
Ran s before after n = (after ≡ stored (printed s) before) × (n ≡ length (printed s)) × (n ≤ 65536)
