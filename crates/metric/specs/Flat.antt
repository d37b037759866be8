-- The boxes that two flat arrays hold (document 01, "What must change shape"). Assumes nothing.
use Rattle.std.specs.Prelude.{List, Float}
use Rattle.written.specs.Boxes.{Boxes}

abbrev pub boxes_of : List Float → List Float → Boxes
boxes_of min max = record { mins = min; maxs = max }
