use Rattle.std.proofs.Common.{◌∙◌}
use Rattle.printing.specs.Putting.{puts_as}
use Rattle.printing.specs.Places.{fewest_decimal}
use Rattle.printing.proofs.page.Page.decimal.Goals as goal

-- the digits are the fewest, so they are the numeral
pub returns-clause-puts : goal.returns-clause-puts
returns-clause-puts c =
    let d = c.decimal_digits.ensures in
    puts_as (d.digits ∙ fewest_decimal c.args.n _ d.len) c.text.ensures.puts
