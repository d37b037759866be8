-- What is taken from a stack ("When nothing waits, the walk is over"). Assumes nothing.
use Rattle.std.specs.Prelude.{cond, ℕ, eqb, Option, None, Some}
use Rattle.std.specs.Float.{nan}
use Rattle.cursor.specs.declared.node.Cursor.{Cursor}
use Rattle.cursor.specs.declared.lent.Side.TheVariants.{Left}
use Rattle.steps.specs.declared.waiting.Waiting.{Waiting}
use Rattle.steps.specs.declared.waiting.Waiting.TheVariants.{Half}

-- what is read past the end of the array
abbrev pub nowhere : Cursor
nowhere = record { stem = record { 0 = 0 }; first = record { 0 = 0 }; end = record { 0 = 0 }; level = 0; remaining = 0 }

abbrev pub blank : Waiting
blank = Half Left 0 nan nan nan (record { left = nowhere; right = nowhere })

abbrev pub popped_of : ℕ → Waiting → Option Waiting
popped_of len top = cond (eqb len 0) None (Some top)
