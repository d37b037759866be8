-- What the check answers: nothing, or the first rule broken. Assumes nothing.
use Rattle.std.specs.Prelude.{Result, Ok, Err, ℕ}
use Rattle.written.specs.Check.{Rule, rule₁, rule₂, rule₃, rule₄, rule₅, rule₆, rule₇, number_of}
use Rattle.tree.specs.declared.Rule.{Rule as Held}
use Rattle.tree.specs.declared.Rule.TheVariants.{Axes, Sizes, Lengths, Starts, Coords, Pivots, Order}

abbrev pub rule_of : Held → Rule
rule_of Axes = rule₁
rule_of Sizes = rule₂
rule_of Lengths = rule₃
rule_of Starts = rule₄
rule_of Coords = rule₅
rule_of Pivots = rule₆
rule_of Order = rule₇

-- as a number: 0 where none is broken
abbrev pub told : Result Unit Held → ℕ
told (Ok u) = 0
told (Err r) = number_of (rule_of r)
