-- Document 01, "Stand examples": A1, A3, A4, A6, A8, A9, B1, B2, B3 and C1 as one table over the definitions, by computation. Assumes nothing.
use Rattle.std.specs.Prelude.{◌≡◌, refl, false, List, [], ◌∷◌}
use Rattle.std.specs.Float.{nan, inf}
use Rattle.std.specs.Float.Ieee.{le, lt}
use Rattle.written.specs.LentTree.{levels}
use Rattle.written.specs.Check.{every, down}
use Rattle.written.specs.Boxes.{Trees, up_to, under}
use Rattle.written.specs.Visits.{runs, carries}
use Rattle.written.specs.Totals.{walk_deepest, near_deepest}
use Rattle.written.proofs.Table.{pairs, count_of, nearest_of, blank_pair, blank_near, outcome, Row, Holds, totals, pair, near, pairs_row, count_row, nearest_row, num, neg}

-- ---- A

abbrev pub stand_A : Trees
stand_A = record {
  axes = 2;
  left = record { starts = 0 ∷ 2 ∷ 4 ∷ []; stems = num 0 ∷ num 4 ∷ []; items = 10 ∷ 11 ∷ 12 ∷ 13 ∷ []; coords = num 1 ∷ num 4 ∷ num 4 ∷ num 7 ∷ num 1 ∷ num 2 ∷ num 6 ∷ num 1 ∷ [] };
  right = record { starts = 0 ∷ 2 ∷ []; stems = []; items = 20 ∷ 21 ∷ []; coords = num 1 ∷ num 7 ∷ num 5 ∷ num 1 ∷ [] };
}

-- ---- B

abbrev pub stand_B : Trees
stand_B = record {
  axes = 1;
  left = record { starts = 0 ∷ 1 ∷ 2 ∷ []; stems = nan ∷ num 0 ∷ []; items = 1 ∷ 2 ∷ []; coords = neg 5 ∷ num 5 ∷ [] };
  right = record { starts = 0 ∷ 1 ∷ 2 ∷ []; stems = nan ∷ num 3 ∷ []; items = 3 ∷ 4 ∷ []; coords = neg 5 ∷ num 5 ∷ [] };
}

-- ---- C1

abbrev pub stand_C1 : Trees
stand_C1 = record {
  axes = 1;
  left = record { starts = 0 ∷ 1 ∷ []; stems = []; items = 1 ∷ []; coords = num 0 ∷ [] };
  right = record { starts = 0 ∷ 1 ∷ 2 ∷ []; stems = nan ∷ num 0 ∷ []; items = 5 ∷ 6 ∷ []; coords = neg 1 ∷ num 1 ∷ [] };
}

-- Buffers have a place more than is stored, which stays untouched.
abbrev stands : List Row
stands =
    -- A1, A3, A4: pairs up to 10, under 0, up to NaN
    pairs_row (pairs stand_A up_to (num 10) 4) 0 3 (totals 3 8 0 0) (pair 11 21 (num 10) ∷ pair 12 20 (num 10) ∷ pair 13 21 (num 0) ∷ blank_pair ∷ [])
    ∷ pairs_row (pairs stand_A under (num 0) 1) 0 0 (totals 1 0 8 0) (blank_pair ∷ [])
    ∷ pairs_row (pairs stand_A up_to nan 1) 0 0 (totals 3 8 0 0) (blank_pair ∷ [])
    -- A6: count up to +inf
    ∷ count_row (count_of stand_A up_to (inf false)) 8 (totals 1 0 0 8)
    -- A8: nearest
    ∷ nearest_row (nearest_of stand_A 5) 4 (totals 3 8 0 0) (near 20 (num 16) ∷ near 21 (num 10) ∷ near 20 (num 10) ∷ near 21 (num 0) ∷ blank_near ∷ [])
    -- A9: pairs up to 10, room 2
    ∷ pairs_row (pairs stand_A up_to (num 10) 2) 9 3 (totals 3 8 0 0) (pair 11 21 (num 10) ∷ pair 12 20 (num 10) ∷ [])
    -- B1, B2, B3: pairs up to 1, up to 9, under 9
    ∷ pairs_row (pairs stand_B up_to (num 1) 3) 0 2 (totals 7 3 1 0) (pair 1 3 (num 0) ∷ pair 2 4 (num 0) ∷ blank_pair ∷ [])
    ∷ pairs_row (pairs stand_B up_to (num 9) 3) 0 2 (totals 7 4 0 0) (pair 1 3 (num 0) ∷ pair 2 4 (num 0) ∷ blank_pair ∷ [])
    ∷ pairs_row (pairs stand_B under (num 9) 3) 0 2 (totals 7 3 1 0) (pair 1 3 (num 0) ∷ pair 2 4 (num 0) ∷ blank_pair ∷ [])
    -- C1: nearest takes the far half first, pairs the near one
    ∷ nearest_row (nearest_of stand_C1 2) 1 (totals 3 2 0 0) (near 6 (num 1) ∷ blank_near ∷ [])
    ∷ pairs_row (pairs stand_C1 up_to (num 1) 3) 0 2 (totals 3 2 0 0) (pair 1 5 (num 1) ∷ pair 1 6 (num 1) ∷ blank_pair ∷ [])
    ∷ []

pub stand_table : Holds stands
unfolding outcome runs carries every down levels le lt num neg
stand_table = refl

-- request K2's examples: the most that waited in A1, A3 and A8
pub stand_waiting : walk_deepest stand_A up_to (num 10) false ∷ walk_deepest stand_A under (num 0) false ∷ near_deepest stand_A ∷ [] ≡ 1 ∷ 0 ∷ 2 ∷ []
unfolding walk_deepest near_deepest runs carries levels le lt num
stand_waiting = refl
