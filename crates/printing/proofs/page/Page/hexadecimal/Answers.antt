use Rattle.std.proofs.Common.{◌≡◌, ℕ, length, ap₂, ◌∙◌, arith}
use Rattle.printing.specs.Digits.{last_digits}
use Rattle.printing.specs.Numerals.{hexadecimal}
use Rattle.printing.specs.Putting.{puts_as}
use Rattle.printing.proofs.page.Page.hexadecimal.Goals as goal

-- the digits are no fewer than 16, and no more
pub returns-clause-puts : goal.returns-clause-puts
unfolding hexadecimal
returns-clause-puts c =
    let h = c.hex_digits.ensures in
    let sixteen : length c.hex_digits.result.now ≡ 16 = omega (arith, h.len.0, h.in_bounds) in
    puts_as (h.digits ∙ ap₂ (λ (k n : ℕ). last_digits 16 k n) sixteen c.bits.ensures) c.text.ensures.puts
