use Rattle.printing.specs.Text.{line}
use Rattle.printing.specs.Putting.{puts_then}
use Rattle.printing.proofs.answer.line.Goals as goal

-- six texts, one after the other
pub returns-clause-puts : goal.returns-clause-puts
unfolding line
returns-clause-puts c =
    puts_then (puts_then (puts_then (puts_then (puts_then c.decimal.ensures.puts c.text.ensures.puts) c.decimal-2.ensures.puts) c.text-2.ensures.puts) c.hexadecimal.ensures.puts) c.text-3.ensures.puts
