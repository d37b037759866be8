-- The rooms are as the call left them, and its lines are their first places. Assumes nothing.
use native.Mathlib.Omega.{arith}
use Rattle.job.proofs.Texts.{puts_as}
use Rattle.job.proofs.Telling.{pairs_few, pairs_told}
use Rattle.job.proofs.modes.pairs_text.Goals as goal

pub told-requires : goal.told-requires
told-requires c = let few = pairs_few _ _ _ _ _ _ _ c.pairs-a.ensures c.shown-n.ensures in
    record {
      short = omega arith;
      few = few;
      lefts_held = omega (arith, few);
      rights_held = omega (arith, few);
      distances_held = omega (arith, few);
    }

pub returns : goal.returns
returns c = let t = c.told.ensures in
    record { put = puts_as (pairs_told _ _ _ _ _ _ _ c.pairs-a.ensures c.shown-n.ensures) t.put; bounded = t.bounded }
