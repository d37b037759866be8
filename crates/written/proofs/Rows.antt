-- Small rows worked out by hand from document 01's text, where its ten examples cannot tell a newcomer's definition from the right one:
-- ragged leaf counts, empty leaves, boxes turned inside out, ties, tiles; and the examples of 01 that are not in the stand table. By computation. Assumes nothing.
use Rattle.std.specs.Prelude.{◌≡◌, refl, false, List, [], ◌∷◌, ◌++◌, map, ℕ, replicate, Float}
use Rattle.std.specs.Float.{nan, inf, binary64}
use Rattle.std.specs.Float.Ieee.{le, lt, of_bits}
use Rattle.written.specs.LentTree.{Tree, levels}
use Rattle.written.specs.Check.{every, down}
use Rattle.written.specs.Boxes.{Trees, up_to, under}
use Rattle.written.specs.Visits.{runs, carries}
use Rattle.written.specs.Spacing.{radius_of}
use Rattle.written.proofs.Table.{pairs, count_of, nearest_of, blank_pair, blank_near, outcome, Row, Holds, totals, pair, near, pairs_row, count_row, nearest_row, num, neg}
use Rattle.written.proofs.Stands.{stand_A, stand_B}

-- two leaves against three: the right spans more; its last node has one leaf, a level left and a pivot of +inf
abbrev ragged : Trees
ragged = record {
  axes = 1;
  left = record { starts = 0 ∷ 1 ∷ 2 ∷ []; stems = nan ∷ num 0 ∷ []; items = 1 ∷ 2 ∷ []; coords = neg 1 ∷ num 1 ∷ [] };
  right = record { starts = 0 ∷ 1 ∷ 2 ∷ 3 ∷ []; stems = nan ∷ num 12 ∷ num 11 ∷ inf false ∷ []; items = 3 ∷ 4 ∷ 5 ∷ []; coords = num 10 ∷ num 11 ∷ num 12 ∷ [] };
}

-- five leaves over two axes: node 3 has a far half over no leaf, and node 7 over no leaf holds NaN
abbrev five : Trees
five = record {
  axes = 2;
  left = record {
    starts = 0 ∷ 1 ∷ 2 ∷ 3 ∷ 4 ∷ 5 ∷ [];
    stems = nan ∷ num 8 ∷ num 7 ∷ num 1 ∷ num 1 ∷ num 5 ∷ inf false ∷ nan ∷ [];
    items = 20 ∷ 21 ∷ 22 ∷ 23 ∷ 24 ∷ [];
    coords = num 0 ∷ num 1 ∷ num 4 ∷ num 6 ∷ num 9 ∷ num 5 ∷ num 6 ∷ num 7 ∷ num 8 ∷ num 1 ∷ [];
  };
  right = record { starts = 0 ∷ 2 ∷ []; stems = []; items = 30 ∷ 31 ∷ []; coords = num 1 ∷ num 8 ∷ num 5 ∷ num 2 ∷ [] };
}

-- the pivot 10 of an empty half lies above the box [-inf, 0]: the max stays 0
abbrev above : Trees
above = record {
  axes = 1;
  left = record { starts = 0 ∷ 1 ∷ 1 ∷ 2 ∷ 2 ∷ []; stems = nan ∷ num 0 ∷ num 10 ∷ num 30 ∷ []; items = 1 ∷ 2 ∷ []; coords = neg 1 ∷ num 20 ∷ [] };
  right = record { starts = 0 ∷ 1 ∷ 2 ∷ []; stems = nan ∷ num 5 ∷ []; items = 3 ∷ 4 ∷ []; coords = num 1 ∷ num 5 ∷ [] };
}

-- the pivot -10 of an empty half lies below the box [0, +inf]: the min stays 0, and the gap 2 is at the edge of the radius 4
abbrev below : Trees
below = record {
  axes = 1;
  left = record { starts = 0 ∷ 1 ∷ 1 ∷ 1 ∷ 2 ∷ []; stems = nan ∷ num 0 ∷ inf false ∷ neg 10 ∷ []; items = 1 ∷ 2 ∷ []; coords = neg 20 ∷ num 20 ∷ [] };
  right = record { starts = 0 ∷ 1 ∷ 2 ∷ []; stems = nan ∷ neg 2 ∷ []; items = 3 ∷ 4 ∷ []; coords = neg 5 ∷ num 1 ∷ [] };
}

-- a row of four, each its own leaf, against itself: node pairs measured, ruled out and taken whole
abbrev fours : Tree
fours = record { starts = 0 ∷ 1 ∷ 2 ∷ 3 ∷ 4 ∷ []; stems = nan ∷ num 2 ∷ num 1 ∷ num 3 ∷ []; items = 10 ∷ 11 ∷ 12 ∷ 13 ∷ []; coords = num 0 ∷ num 1 ∷ num 2 ∷ num 3 ∷ [] }

abbrev planted : Trees
planted = record { axes = 1; left = fours; right = fours }

-- the left far half holds no point: the largest distance there is 0, so nothing is below it
abbrev empty_half : Trees
empty_half = record {
  axes = 1;
  left = record { starts = 0 ∷ 1 ∷ 1 ∷ []; stems = nan ∷ num 0 ∷ []; items = 1 ∷ []; coords = num 0 ∷ [] };
  right = record { starts = 0 ∷ 1 ∷ 2 ∷ []; stems = nan ∷ num 0 ∷ []; items = 5 ∷ 6 ∷ []; coords = neg 1 ∷ num 1 ∷ [] };
}

-- leaves of 33 with two stems at 0, the first and the last, the others far from everything
abbrev long : ℕ → ℕ → Float → Tree
long first last away = record { starts = 0 ∷ 33 ∷ []; stems = []; items = first ∷ (replicate 31 0 ++ (last ∷ [])); coords = num 0 ∷ (replicate 31 away ++ (num 0 ∷ [])) }

abbrev longs : Trees
longs = record { axes = 1; left = long 1 2 (num 1000); right = long 3 4 (num 3000) }

abbrev two_to_long : Trees
two_to_long = record { axes = 1; left = record { starts = 0 ∷ 2 ∷ []; stems = []; items = 1 ∷ 2 ∷ []; coords = num 0 ∷ num 0 ∷ [] }; right = long 3 4 (num 3000) }

-- one stem against some, one leaf each
abbrev single : Float → List ℕ → List Float → ℕ → Trees
single x items xs n = record { axes = 1; left = record { starts = 0 ∷ 1 ∷ []; stems = []; items = 1 ∷ []; coords = x ∷ [] }; right = record { starts = 0 ∷ n ∷ []; stems = []; items = items; coords = xs } }

-- -1e200, 1e200, 0.1 and 0.01
abbrev low200 : Float
low200 = of_bits binary64 0xe974e718d7d7625a

abbrev high200 : Float
high200 = of_bits binary64 0x6974e718d7d7625a

abbrev tenth : Float
tenth = of_bits binary64 0x3fb999999999999a

abbrev hundredth : Float
hundredth = of_bits binary64 0x3f847ae147ae147b

abbrev walks : List Row
walks =
    -- equal spans: the left is split
    pairs_row (pairs stand_B up_to (num 100) 4) 0 4 (totals 7 4 0 0) (pair 1 3 (num 0) ∷ pair 1 4 (num 100) ∷ pair 2 3 (num 100) ∷ pair 2 4 (num 0) ∷ [])
    -- the right spans more: it is split first; the node with one leaf and a level left is visited again below
    ∷ pairs_row (pairs ragged up_to (num 1000) 6) 0 6 (totals 13 6 0 0) (pair 1 3 (num 121) ∷ pair 1 4 (num 144) ∷ pair 2 3 (num 81) ∷ pair 2 4 (num 100) ∷ pair 1 5 (num 169) ∷ pair 2 5 (num 121) ∷ [])
    -- spans of no leaf count as visits; equal to the radius passes up to it, and not under it
    ∷ pairs_row (pairs five up_to (num 2) 4) 0 3 (totals 12 10 0 0) (pair 20 30 (num 1) ∷ pair 21 30 (num 1) ∷ pair 24 31 (num 2) ∷ blank_pair ∷ [])
    ∷ pairs_row (pairs five under (num 2) 2) 0 2 (totals 12 10 0 0) (pair 20 30 (num 1) ∷ pair 21 30 (num 1) ∷ [])
    -- boxes turned inside out
    ∷ pairs_row (pairs above up_to (num 9) 2) 0 1 (totals 15 3 1 0) (pair 1 3 (num 4) ∷ blank_pair ∷ [])
    ∷ pairs_row (pairs below under (num 4) 1) 0 0 (totals 12 3 1 0) (blank_pair ∷ [])
    -- counts: up to 1 the boxes [1,2] and [2,3] against themselves are taken whole, under 1 none is
    ∷ count_row (count_of planted up_to (num 1)) 10 (totals 31 12 2 2)
    ∷ count_row (count_of planted under (num 1)) 4 (totals 27 10 6 0)
    ∷ pairs_row (pairs planted under (num 1) 4) 0 4 (totals 27 10 6 0) (pair 10 10 (num 0) ∷ pair 11 11 (num 0) ∷ pair 12 12 (num 0) ∷ pair 13 13 (num 0) ∷ [])
    ∷ count_row (count_of planted up_to nan) 0 (totals 31 16 0 0)
    -- tiles of 32: left tiles, within each the right tiles
    ∷ pairs_row (pairs longs up_to (num 1) 4) 0 4 (totals 1 1089 0 0) (pair 1 3 (num 0) ∷ pair 1 4 (num 0) ∷ pair 2 3 (num 0) ∷ pair 2 4 (num 0) ∷ [])
    ∷ pairs_row (pairs two_to_long up_to (num 1) 4) 0 4 (totals 1 66 0 0) (pair 1 3 (num 0) ∷ pair 2 3 (num 0) ∷ pair 1 4 (num 0) ∷ pair 2 4 (num 0) ∷ [])
    -- nearest: ruled out at a bound that equals the largest; an empty span; ties in a leaf go to the first
    ∷ nearest_row (nearest_of stand_B 2) 2 (totals 7 3 1 0) (near 3 (num 0) ∷ near 4 (num 0) ∷ [])
    ∷ nearest_row (nearest_of ragged 2) 2 (totals 13 6 0 0) (near 3 (num 121) ∷ near 3 (num 81) ∷ [])
    ∷ nearest_row (nearest_of planted 4) 4 (totals 25 10 6 0) (near 10 (num 0) ∷ near 11 (num 0) ∷ near 12 (num 0) ∷ near 13 (num 0) ∷ [])
    ∷ nearest_row (nearest_of empty_half 1) 1 (totals 5 2 0 0) (near 6 (num 1) ∷ [])
    ∷ nearest_row (nearest_of (single (num 0) (7 ∷ 8 ∷ 9 ∷ []) (num 1 ∷ neg 1 ∷ num 1 ∷ []) 3) 1) 1 (totals 1 3 0 0) (near 7 (num 1) ∷ [])
    -- nearest without points: nothing written, all totals 0, whatever the room
    ∷ nearest_row (nearest_of (single (num 0) [] [] 0) 1) 0 (totals 0 0 0 0) (blank_near ∷ [])
    ∷ nearest_row (nearest_of (single (num 0) [] [] 0) 0) 0 (totals 0 0 0 0) []
    -- A2, A5, A7
    ∷ pairs_row (pairs stand_A under (num 10) 1) 0 1 (totals 3 8 0 0) (pair 13 21 (num 0) ∷ [])
    ∷ pairs_row (pairs stand_A up_to (neg 1) 1) 0 0 (totals 1 0 8 0) (blank_pair ∷ [])
    ∷ count_row (count_of stand_A under (inf false)) 8 (totals 3 8 0 0)
    -- C2: an overflow of every distance keeps item 0 at +inf; up to +inf finds the pair, under it doesn't
    ∷ nearest_row (nearest_of (single low200 (7 ∷ []) (high200 ∷ []) 1) 1) 1 (totals 1 1 0 0) (near 0 (inf false) ∷ [])
    ∷ pairs_row (pairs (single low200 (7 ∷ []) (high200 ∷ []) 1) up_to (inf false) 1) 0 1 (totals 1 1 0 0) (pair 1 7 (inf false) ∷ [])
    ∷ pairs_row (pairs (single low200 (7 ∷ []) (high200 ∷ []) 1) under (inf false) 1) 0 0 (totals 1 1 0 0) (blank_pair ∷ [])
    -- C3: 0.1*0.1 rounds above 0.01
    ∷ pairs_row (pairs (single (num 0) (7 ∷ []) (tenth ∷ []) 1) up_to hundredth 1) 0 0 (totals 1 1 0 0) (blank_pair ∷ [])
    ∷ []

pub walk_rows : Holds walks
unfolding outcome runs carries every down levels le lt num neg of_bits
walk_rows = refl

-- the spacing helper: -2, 0.1, 1e200 and the smallest length, NaN
pub spacing_rows : map radius_of (neg 2 ∷ tenth ∷ high200 ∷ of_bits binary64 1 ∷ nan ∷ []) ≡ num 4 ∷ of_bits binary64 0x3f847ae147ae147c ∷ inf false ∷ num 0 ∷ nan ∷ []
unfolding radius_of num neg of_bits
spacing_rows = refl
