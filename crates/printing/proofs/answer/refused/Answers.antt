use Rattle.std.proofs.Common.{rules}
use Rattle.printing.specs.Text.{refused_line}
use Rattle.printing.specs.Putting.{puts_then, puts_in}
use Rattle.printing.proofs.answer.refused.Goals as goal

-- five texts, one after the other
pub returns-clause-puts : goal.returns-clause-puts
unfolding refused_line
returns-clause-puts c =
    puts_in (search rules) (puts_then (puts_then (puts_then (puts_then c.text.ensures.puts c.decimal.ensures.puts) c.text-2.ensures.puts) c.decimal-2.ensures.puts) c.text-3.ensures.puts)
