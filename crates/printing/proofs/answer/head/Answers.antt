use Rattle.std.proofs.Common.{rules}
use Rattle.printing.specs.Text.{first_line}
use Rattle.printing.specs.Putting.{puts_then, puts_in}
use Rattle.printing.proofs.answer.head.Goals as goal

-- four texts, one after the other
pub returns-clause-puts : goal.returns-clause-puts
unfolding first_line
returns-clause-puts c =
    puts_in (search rules) (puts_then (puts_then (puts_then c.text.ensures.puts c.text-2.ensures.puts) c.decimal.ensures.puts) c.text-3.ensures.puts)
