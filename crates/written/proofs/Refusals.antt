-- Document 01, "Check, in this order": example A with one thing wrong, or several, and the refusal worked out by hand from the table of rules. By computation. Assumes nothing.
use Rattle.std.specs.Prelude.{refl, true, false, List, [], ◌∷◌, ℕ, replicate, pos, Float}
use Rattle.std.specs.Float.{nan, inf, fin}
use Rattle.std.specs.Float.Ieee.{le, lt}
use Rattle.written.specs.LentTree.{Tree, levels}
use Rattle.written.specs.Check.{every, down}
use Rattle.written.specs.Boxes.{up_to}
use Rattle.written.specs.Visits.{runs, carries}
use Rattle.written.proofs.Table.{Ask, pairs, uneven_pairs, nearest_of, uneven_nearest, blank_pair, blank_near, outcome, Row, Holds, totals, pairs_row, refused_pairs, refused_nearest, num, neg}
use Rattle.written.proofs.Stands.{stand_A}

abbrev good : Tree
good = stand_A.left

abbrev xys : List Float
xys = good.coords

abbrev starting : List ℕ → Tree
starting starts = record { starts = starts; stems = good.stems; items = good.items; coords = xys }

abbrev stemmed : List Float → Tree
stemmed stems = record { starts = good.starts; stems = stems; items = good.items; coords = xys }

abbrev pivoted : Float → Tree
pivoted v = stemmed (num 0 ∷ v ∷ [])

-- the second point's x, and the stem
abbrev moved : Float → Float → Tree
moved x v = record { starts = good.starts; stems = num 0 ∷ v ∷ []; items = good.items; coords = num 1 ∷ x ∷ num 4 ∷ num 7 ∷ num 1 ∷ num 2 ∷ num 6 ∷ num 1 ∷ [] }

-- a point in each half, on one axis
abbrev two_leaves : Float → Float → Float → Tree
two_leaves x y v = record { starts = 0 ∷ 1 ∷ 2 ∷ []; stems = nan ∷ v ∷ []; items = 1 ∷ 2 ∷ []; coords = x ∷ y ∷ [] }

-- a point in each of three leaves: node 3 is over the last
abbrev three_leaves : Float → Tree
three_leaves v = record { starts = 0 ∷ 1 ∷ 2 ∷ 3 ∷ []; stems = nan ∷ num 2 ∷ num 1 ∷ v ∷ []; items = 1 ∷ 2 ∷ 3 ∷ []; coords = num 0 ∷ num 1 ∷ num 2 ∷ [] }

-- n points in one leaf
abbrev crowd : ℕ → Tree
crowd n = record { starts = 0 ∷ n ∷ []; stems = []; items = replicate n 1; coords = replicate n (num 0) }

abbrev minus_zero : Float
minus_zero = fin true 0 (pos 0)

-- a call with that tree on the left; on the right; on both sides of one axis
abbrev on_left : Tree → Ask
on_left t = pairs (record { axes = 2; left = t; right = stand_A.right }) up_to (num 10) 1

abbrev on_right : Tree → Ask
on_right t = pairs (record { axes = 2; left = good; right = t }) up_to (num 10) 1

abbrev on_axis : Tree → Ask
on_axis t = pairs (record { axes = 1; left = t; right = two_leaves (num 0) (num 0) (num 0) }) up_to (neg 1) 1

abbrev no : Ask → ℕ → ℕ → Row
no ask number side = refused_pairs ask number side (blank_pair ∷ [])

abbrev refusals : List Row
refusals =
    -- 1: K is 0, or 5, whatever else is wrong
    no (pairs (record { axes = 0; left = good; right = good }) up_to (num 10) 1) 1 0
    ∷ no (pairs (record { axes = 5; left = starting []; right = good }) up_to (num 10) 1) 1 0
    -- 2: no starts
    ∷ no (on_left (starting [])) 2 0
    ∷ no (on_right (starting [])) 2 1
    -- 3: a stem too few, a stem too many, stems where one leaf has none, coordinates of one axis
    ∷ no (on_left (stemmed (num 4 ∷ []))) 3 0
    ∷ no (on_left (stemmed (num 0 ∷ num 4 ∷ num 4 ∷ []))) 3 0
    ∷ no (on_right (starting (0 ∷ 4 ∷ []))) 3 1
    ∷ no (on_axis good) 3 0
    -- 4: first start not 0, a start falls, last start not n, a leaf over 1,024
    ∷ no (on_left (starting (1 ∷ 2 ∷ 4 ∷ []))) 4 0
    ∷ no (on_left (starting (0 ∷ 5 ∷ 4 ∷ []))) 4 0
    ∷ no (on_right (starting (0 ∷ 2 ∷ 3 ∷ []))) 4 1
    ∷ no (on_axis (crowd 1025)) 4 0
    ∷ pairs_row (on_axis (crowd 1024)) 0 0 (totals 1 0 2048 0) (blank_pair ∷ [])
    -- 5: a coordinate is NaN, or infinite, though the order broken too
    ∷ no (on_left (moved nan (num 4))) 5 0
    ∷ no (on_right (moved (inf false) (num 0))) 5 1
    ∷ no (on_left (moved (inf true) (num 4))) 5 0
    -- 6: a pivot is NaN or -inf
    ∷ no (on_left (pivoted nan)) 6 0
    ∷ no (on_right (pivoted (inf true))) 6 1
    -- and a node over one leaf with a level left is such a node
    ∷ no (on_axis (three_leaves nan)) 6 0
    ∷ pairs_row (on_axis (three_leaves (num 3))) 0 0 (totals 1 0 6 0) (blank_pair ∷ [])
    -- 7: a point of the left half above the pivot, one of the right half below it, a pivot of +inf with a point in the right half
    ∷ no (on_left (moved (num 5) (num 4))) 7 0
    ∷ no (on_axis (two_leaves (num 1) (num 2) (num 3))) 7 0
    ∷ no (on_axis (two_leaves (num 3) (num 4) (num 2))) 7 0
    ∷ no (on_right (pivoted (inf false))) 7 1
    -- equality with a pivot is allowed on both sides, and both zeros are equal
    ∷ pairs_row (on_axis (two_leaves (num 3) (num 3) (num 3))) 0 0 (totals 1 0 4 0) (blank_pair ∷ [])
    ∷ pairs_row (on_axis (two_leaves (num 0) (num 0) minus_zero)) 0 0 (totals 1 0 4 0) (blank_pair ∷ [])
    -- the lowest number wins within a tree, the left tree wholly before the right, the trees before the rooms
    ∷ no (on_left (record { starts = 1 ∷ 0 ∷ []; stems = nan ∷ []; items = 1 ∷ []; coords = nan ∷ nan ∷ [] })) 3 0
    ∷ no (pairs (record { axes = 2; left = pivoted (num 3); right = starting [] }) up_to (num 10) 1) 7 0
    ∷ refused_pairs (uneven_pairs (record { axes = 2; left = good; right = pivoted nan }) up_to (num 10) 1 2 2) 6 1 (blank_pair ∷ [])
    -- 8: output buffers of one call differ in length, told before 9
    ∷ refused_pairs (uneven_pairs stand_A up_to (num 10) 1 2 2) 8 0 (blank_pair ∷ [])
    ∷ refused_pairs (uneven_pairs stand_A up_to (num 10) 2 2 1) 8 0 (blank_pair ∷ [])
    ∷ refused_nearest (uneven_nearest stand_A 1 2) 8 0 (blank_near ∷ [])
    -- 9, nearest: room below the left number
    ∷ refused_nearest (nearest_of stand_A 3) 9 0 (blank_near ∷ blank_near ∷ blank_near ∷ [])
    ∷ []

pub refusal_rows : Holds refusals
unfolding outcome runs carries every down levels le lt num neg
refusal_rows = refl
