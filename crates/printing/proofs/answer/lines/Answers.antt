use Rattle.std.proofs.Common.{◌≡◌, ℕ, ◌+◌, List, [], ◌∷◌, ◌++◌, get_or, refl, sym, ap, ◌∙◌, arith, rules, add-one, append-nil, append_assoc}
use Rattle.std.specs.Float.Ieee.{Float}
use Rattle.std.specs.Float.{nan}
use Rattle.written.specs.RadiusWalk.{Found}
use Rattle.printing.specs.Text.{line, lines}
use Rattle.printing.specs.Rows.{found, rows}
use Rattle.printing.specs.Putting.{puts_nothing, puts_then, puts_as, puts_in}
use Rattle.printing.proofs.answer.lines.Goals as goal

lines_more : (l : List Found) (x : Found) → lines (l ++ (x ∷ [])) ≡ lines l ++ line x
unfolding lines
lines_more [] x = append-nil (line x)
lines_more (y ∷ l) x = ap (λ (t : List ℕ). line y ++ t) (lines_more l x) ∙ sym (append_assoc (line y) (lines l) (line x))

rows_more : (i : ℕ) (lefts rights : List ℕ) (distances : List Float) → lines (rows (i + 1) lefts rights distances) ≡ lines (rows i lefts rights distances) ++ line (found (get_or lefts i 0) (get_or rights i 0) (get_or distances i nan))
unfolding rows
rows_more i lefts rights distances = rw add-one (lines_more (rows i lefts rights distances) _)

rows_none : (lefts rights : List ℕ) (distances : List Float) → [] ≡ lines (rows 0 lefts rights distances)
unfolding lines rows
rows_none lefts rights distances = refl

pub loop-i-init : goal.loop-i-init
loop-i-init c =
    let a = c.args in
    record { same_buffer = refl; few = omega arith; put = puts_as (rows_none a.lefts.now a.rights.now a.distances.now) puts_nothing }

pub loop-i-preserved : goal.loop-i-preserved
loop-i-preserved c =
    let a = c.args in
    let l = c.loop-i in
    let w = c.line.ensures in record {
      same_buffer = w.same_buffer ∙ l.invariant.same_buffer;
      few = omega (arith, w.upper_bound);
      put = puts_as (sym (rows_more l.i a.lefts.now a.rights.now a.distances.now)) (puts_then l.invariant.put w.puts);
    }

pub returns-clause-puts : goal.returns-clause-puts
returns-clause-puts c =
    let a = c.args in
    let l = c.loop-i in
    let e : l.i ≡ a.n = omega arith in
    puts_in (search rules) (puts_as (ap (λ (k : ℕ). lines (rows k a.lefts.now a.rights.now a.distances.now)) e) l.invariant.put)
