use Rattle.std.proofs.Common.{rules}
use Rattle.printing.specs.Text.{totals_line}
use Rattle.printing.specs.Putting.{puts_then, puts_in}
use Rattle.printing.proofs.answer.totals.Goals as goal

-- nine texts, one after the other
pub returns-clause-puts : goal.returns-clause-puts
unfolding totals_line
returns-clause-puts c =
    let visits = puts_then c.text.ensures.puts c.decimal.ensures.puts in
    let measured = puts_then (puts_then visits c.text-2.ensures.puts) c.decimal-2.ensures.puts in
    let ruled = puts_then (puts_then measured c.text-3.ensures.puts) c.decimal-3.ensures.puts in
    puts_in (search rules) (puts_then (puts_then (puts_then ruled c.text-4.ensures.puts) c.decimal-4.ensures.puts) c.text-5.ensures.puts)
