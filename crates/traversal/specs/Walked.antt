-- What the whole radius walk does (document 01, "The radius walk", "Totals"). Assumes nothing.
use Rattle.std.specs.Prelude.{Bool, true, false, length, Float}
use Rattle.written.specs.Boxes.{Trees, Edge}
use Rattle.written.specs.RadiusWalk.{found, count}
use Rattle.written.specs.Totals.{walk_totals}
use Rattle.written.specs.Answers.{PairRooms, pairs_stored}
use Rattle.radiusvisit.specs.Work.{Work}

abbrev pub walked : Trees → Edge → Float → (counting : Bool) → PairRooms → Work
walked j edge radius false b = record { fill = record { found = length (found j edge radius); rooms = pairs_stored (found j edge radius) b }; totals = walk_totals j edge radius false }
walked j edge radius true b = record { fill = record { found = count j edge radius; rooms = b }; totals = walk_totals j edge radius true }
