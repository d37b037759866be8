-- What a walk has counted, as document 01 has it ("Totals"), and what a visit adds. Assumes nothing.
use Rattle.std.specs.Prelude.{ℕ, suc, ◌+◌, ◌*◌}
use Rattle.written.specs.Visits.{Fate, measured, ruled, whole, is}
use Rattle.written.specs.Totals.{Totals}
use Rattle.steps.specs.declared.tally.Tally.{Tally}

abbrev pub totals_held : Tally → Totals
totals_held t = record { visits = t.visits; measured = t.measured; ruled_out = t.ruled; whole = t.whole }

-- one node pair more is examined
abbrev pub visited : Totals → Totals
visited t = record { visits = suc t.visits; measured = t.measured; ruled_out = t.ruled_out; whole = t.whole }

-- n pairs of places more have this fate
abbrev pub adding : Fate → ℕ → Totals → Totals
adding k n t = record { visits = t.visits; measured = t.measured + is measured k * n; ruled_out = t.ruled_out + is ruled k * n; whole = t.whole + is whole k * n }
