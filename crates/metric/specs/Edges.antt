-- The two readings of a radius ("up to", "under") as the code holds them, and by the flag that callers in C pass: whether it is "under". Assumes nothing.
use Rattle.std.specs.Prelude.{Bool, true, false}
use Rattle.written.specs.Boxes.{Edge, up_to, under}
use Rattle.metric.specs.declared.within.Edge.{Edge as Held}
use Rattle.metric.specs.declared.within.Edge.TheVariants.{UpTo, Under}

abbrev pub edge_of : Held → Edge
edge_of UpTo = up_to
edge_of Under = under

abbrev pub edge_by : Bool → Edge
edge_by true = under
edge_by false = up_to
