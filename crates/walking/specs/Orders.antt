-- Which half is taken first. Assumes nothing.
use Rattle.std.specs.Prelude.{Bool, true, false}
use Rattle.steps.proofs.Halves.{Order, near_first, far_first}

abbrev pub order_by : Bool → Order
order_by true = far_first
order_by false = near_first
