-- What the promises permit is exactly document 01's table, row by row. Assumes nothing.
use Rattle.std.specs.Prelude.{◌↔◌, Float}
use Rattle.written.specs.Boxes.{Trees, Edge}
use Rattle.written.specs.Answers.{PairRooms, NearRooms}
use Rattle.written.specs.Calls.{PairsAnswer, CountsAnswer, NearestAnswer}
use Rattle.written.proofs.Answered.{pairs_mean, counts_mean, nearest_means}
use Rattle.join.specs.Answering.{Held, answer_of}
use Rattle.join.specs.Told.{Result, PairsTold, CountsTold, NearestTold}

pub pairs_table : (j : Trees) (edge : Edge) (radius : Float) (b : PairRooms) (r : Result PairRooms) → PairsTold j edge radius b r ↔ PairsAnswer j edge radius b (answer_of r.answer, r.rooms)
pairs_table j edge radius b r =
    let m = pairs_mean j edge radius b (answer_of r.answer, r.rooms) in
    (m.1, m.0)

pub counts_table : (j : Trees) (edge : Edge) (radius : Float) (a : Held) → CountsTold j edge radius a ↔ CountsAnswer j edge radius (answer_of a)
counts_table j edge radius a =
    let m = counts_mean j edge radius (answer_of a) in
    (m.1, m.0)

pub nearest_table : (j : Trees) (b : NearRooms) (r : Result NearRooms) → NearestTold j b r ↔ NearestAnswer j b (answer_of r.answer, r.rooms)
nearest_table j b r =
    let m = nearest_means j b (answer_of r.answer, r.rooms) in
    (m.1, m.0)
