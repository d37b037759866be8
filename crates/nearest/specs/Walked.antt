-- What the whole walk does (document 01, "Nearest", "Totals"). Assumes nothing.
use Rattle.written.specs.Boxes.{Trees}
use Rattle.written.specs.Nearest.{nearest}
use Rattle.written.specs.Totals.{near_totals}
use Rattle.nearvisit.specs.Held.{Held}

module _ (j : Trees) where
  -- after the last visit
  abbrev pub walked : Held
  walked = record { answers = nearest j; totals = near_totals j }
