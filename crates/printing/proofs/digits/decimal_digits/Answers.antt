use Rattle.std.proofs.Common.{◌≤◌, arith}
use Rattle.printing.specs.Places.{at_most}
use Rattle.printing.proofs.digits.decimal_digits.Goals as goal
use Rattle.printing.proofs.digits.decimal_digits.Goals.{After-count-k}

-- twenty digits hold a u64
held : (c : goal.After-count-k) → c.count-k.result ≤ 20
held c = at_most 10 1 20 c.args.n c.count-k.result (omega arith) (omega arith) (omega arith) c.count-k.ensures

pub store-requires-clause-in_bounds : goal.store-requires-clause-in_bounds
store-requires-clause-in_bounds c = omega (arith, held (goal.at.store-requires-clause-in_bounds c).After-count-k)

pub shared_ref_as_front-result : goal.shared_ref_as_front-result
shared_ref_as_front-result c = omega (arith, held (goal.at.shared_ref_as_front-result c).After-count-k)
