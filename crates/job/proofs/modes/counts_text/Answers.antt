-- No lines. Assumes nothing.
use Rattle.job.proofs.Texts.{puts_as}
use Rattle.job.proofs.Telling.{counts_told}
use Rattle.job.proofs.modes.counts_text.Goals as goal

pub returns : goal.returns
returns c = let t = c.told.ensures in
    record { put = puts_as (counts_told _ _ _ _ _ _ _ c.counts-a.ensures) t.put; bounded = t.bounded }
