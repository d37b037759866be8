-- The left items, and the rooms as the call left them. Assumes nothing.
use native.Mathlib.Omega.{arith}
use Rattle.job.proofs.Texts.{puts_as}
use Rattle.job.proofs.Telling.{nearest_few, nearest_told}
use Rattle.job.proofs.modes.nearest_text.Goals as goal

pub told-requires : goal.told-requires
told-requires c = let few = nearest_few _ _ _ _ c.nearest-a.ensures c.shown-n.ensures in
    record {
      short = omega arith;
      few = few.0;
      lefts_held = few.1;
      rights_held = omega (arith, few.0);
      distances_held = omega (arith, few.0);
    }

pub returns : goal.returns
returns c = let t = c.told.ensures in
    record { put = puts_as (nearest_told _ _ _ _ c.nearest-a.ensures c.shown-n.ensures) t.put; bounded = t.bounded }
