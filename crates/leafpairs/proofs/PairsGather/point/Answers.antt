-- The row of distances is that of the definition; then none of the places pass, or all, or those found. Assumes nothing.
use mathlib.Core.Path.{◌≡◌, refl, sym, ap, ◌∙◌}
use mathlib.Core.List.{List, []}
use Prim.Native.Nat.{ℕ, ◌+◌, ◌-◌, ◌*◌}
use native.Mathlib.Omega.{arith}
use lib.ListN.{length, take, drop, get_or}
use lib.Ieee.{Float, nan}
use Rattle.metric.specs.Edges.{edge_of}
use Rattle.leaf.specs.Sums.{Holds, sum_to, row, reached, passing, hits}
use Rattle.leaf.specs.Kept.{keeps, of_point}
use Rattle.rooms.specs.Rooms.{filling, puts}
use Rattle.rooms.specs.Emitted.{places_of, places_below, pairs_at, Emits}
use Rattle.rooms.proofs.Places.{none_pass, all_pass}
use Rattle.leafpairs.proofs.Points.{hits_row, part_size, measured, point_puts, point_emits}
use Rattle.leafpairs.proofs.PairsGather.point.Goals as goal

pub returns-then-m-eq0-clause-gathered : goal.returns-then-m-eq0-clause-gathered
unfolding puts
returns-then-m-eq0-clause-gathered c =
    let distances : List Float = c.last_axis-m.new.dists in
    let many : let a = c.args in c.last_axis-m.result ≡ hits (passing (edge_of a.within.edge) a.within.radius (row distances)) (a.right.to - a.right.from) = let a = c.args in
    let tile = c.tile in
    hits_row (edge_of a.within.edge) a.within.radius distances (reached c.first_axes.new.sums (get_or a.trees.now.left.coords.now ((a.trees.now.k - 1) * length a.trees.now.left.items.now + a.p) nan) tile.result.now) (a.right.to - a.right.from) (length tile.result.now) tile.ensures.len c.last_axis-m.ensures.holds c.last_axis-m.ensures.value in
    let part : List ℕ = let a = c.args in take (a.right.to - a.right.from) (drop a.right.from a.trees.now.right.items.now) in
    let Passing : List ℕ → Type 0 = λ l. let a = c.args in l ≡ places_of (passing (edge_of a.within.edge) a.within.radius (row distances)) (a.right.to - a.right.from) in
    let held : let a = c.args in Holds distances (a.right.to - a.right.from) (sum_to a.trees.now.left.coords.now (length a.trees.now.left.items.now) a.p a.trees.now.right.coords.now (length a.trees.now.right.items.now) a.right.from a.trees.now.k) = let a = c.args in
    let tile = c.tile in
    measured a.trees.now.k a.trees.now.left.items.now a.trees.now.left.coords.now a.p a.trees.now.right.items.now a.trees.now.right.coords.now a.right.from (a.right.to - a.right.from) c.first_axes.new.sums distances tile.result.now c.requires.point_tile.some_axes (rw (c.columns-one.ensures.number, c.columns-one.ensures.coords, c.columns-many.ensures.number, c.columns-many.ensures.coords) at c.first_axes.ensures.holds) tile.ensures.value tile.ensures.len c.last_axis-m.ensures.holds in
    let stored : (l : List ℕ) → Passing l → let a = c.args in let s = filling a.self.now.found a.self.now.lout.now a.self.now.rout.now a.self.now.dout.now in puts s (pairs_at distances (get_or a.trees.now.left.items.now a.p 0) part l) ≡ puts s (of_point (keeps a.trees.now.k a.within.radius (edge_of a.within.edge) a.trees.now.left.items.now a.trees.now.left.coords.now a.trees.now.right.items.now a.trees.now.right.coords.now) a.p a.right.from a.right.to) = λ l e. let a = c.args in
    point_puts a.trees.now.k a.trees.now.left.items.now a.trees.now.left.coords.now a.p a.trees.now.right.items.now a.trees.now.right.coords.now a.right.from a.within.radius (edge_of a.within.edge) a.right.to distances held (filling a.self.now.found a.self.now.lout.now a.self.now.rout.now a.self.now.dout.now) l e in
    record { lefts = refl; rights = refl; distances = refl; same = λ h. h; put = stored [] (sym (none_pass _ _ (sym many ∙ c.if-m-eq0.true))) }

pub emit_all-self-requires-clause-emits : goal.emit_all-self-requires-clause-emits
emit_all-self-requires-clause-emits c =
    let part : List ℕ = let a = c.args in take (a.right.to - a.right.from) (drop a.right.from a.trees.now.right.items.now) in
    let distances : List Float = c.last_axis-m.new.dists in
    let Passing : List ℕ → Type 0 = λ l. let a = c.args in l ≡ places_of (passing (edge_of a.within.edge) a.within.radius (row distances)) (a.right.to - a.right.from) in
    let held : let a = c.args in Holds distances (a.right.to - a.right.from) (sum_to a.trees.now.left.coords.now (length a.trees.now.left.items.now) a.p a.trees.now.right.coords.now (length a.trees.now.right.items.now) a.right.from a.trees.now.k) = let a = c.args in
    let tile = c.tile in
    measured a.trees.now.k a.trees.now.left.items.now a.trees.now.left.coords.now a.p a.trees.now.right.items.now a.trees.now.right.coords.now a.right.from (a.right.to - a.right.from) c.first_axes.new.sums distances tile.result.now c.requires.point_tile.some_axes (rw (c.columns-one.ensures.number, c.columns-one.ensures.coords, c.columns-many.ensures.number, c.columns-many.ensures.coords) at c.first_axes.ensures.holds) tile.ensures.value tile.ensures.len c.last_axis-m.ensures.holds in
    let many : let a = c.args in c.last_axis-m.result ≡ hits (passing (edge_of a.within.edge) a.within.radius (row distances)) (a.right.to - a.right.from) = let a = c.args in
    let tile = c.tile in
    hits_row (edge_of a.within.edge) a.within.radius distances (reached c.first_axes.new.sums (get_or a.trees.now.left.coords.now ((a.trees.now.k - 1) * length a.trees.now.left.items.now + a.p) nan) tile.result.now) (a.right.to - a.right.from) (length tile.result.now) tile.ensures.len c.last_axis-m.ensures.holds c.last_axis-m.ensures.value in
    let size : let a = c.args in length part ≡ a.right.to - a.right.from = part_size c.args.trees.now.right.items.now c.args.right.from c.args.right.to c.requires.point_tile.tile.rising c.requires.point_tile.tile.inside in
    let emits : (m : ℕ) (l : List ℕ) → c.last_axis-m.result ≡ m → Passing l → Emits l m part c.args.self.now.found = λ m l is e. let a = c.args in
    point_emits a.trees.now.k a.trees.now.left.items.now a.trees.now.left.coords.now a.p a.trees.now.right.items.now a.trees.now.right.coords.now a.right.from a.within.radius (edge_of a.within.edge) a.right.to distances held a.self.now.found m l part e (sym is ∙ many) size (omega (arith, c.requires.point_tile.tile.narrow)) c.requires.room.1 in
    let whole : Passing (places_below (length part)) = rw size (sym (all_pass _ _ (sym many ∙ c.if-m-part.true ∙ size))) in
    emits _ _ c.if-m-part.true whole

pub returns-then-m-part-clause-gathered : goal.returns-then-m-part-clause-gathered
returns-then-m-part-clause-gathered c =
    let part : List ℕ = let a = c.args in take (a.right.to - a.right.from) (drop a.right.from a.trees.now.right.items.now) in
    let distances : List Float = c.last_axis-m.new.dists in
    let Passing : List ℕ → Type 0 = λ l. let a = c.args in l ≡ places_of (passing (edge_of a.within.edge) a.within.radius (row distances)) (a.right.to - a.right.from) in
    let held : let a = c.args in Holds distances (a.right.to - a.right.from) (sum_to a.trees.now.left.coords.now (length a.trees.now.left.items.now) a.p a.trees.now.right.coords.now (length a.trees.now.right.items.now) a.right.from a.trees.now.k) = let a = c.args in
    let tile = c.tile in
    measured a.trees.now.k a.trees.now.left.items.now a.trees.now.left.coords.now a.p a.trees.now.right.items.now a.trees.now.right.coords.now a.right.from (a.right.to - a.right.from) c.first_axes.new.sums distances tile.result.now c.requires.point_tile.some_axes (rw (c.columns-one.ensures.number, c.columns-one.ensures.coords, c.columns-many.ensures.number, c.columns-many.ensures.coords) at c.first_axes.ensures.holds) tile.ensures.value tile.ensures.len c.last_axis-m.ensures.holds in
    let stored : (l : List ℕ) → Passing l → let a = c.args in let s = filling a.self.now.found a.self.now.lout.now a.self.now.rout.now a.self.now.dout.now in puts s (pairs_at distances (get_or a.trees.now.left.items.now a.p 0) part l) ≡ puts s (of_point (keeps a.trees.now.k a.within.radius (edge_of a.within.edge) a.trees.now.left.items.now a.trees.now.left.coords.now a.trees.now.right.items.now a.trees.now.right.coords.now) a.p a.right.from a.right.to) = λ l e. let a = c.args in
    point_puts a.trees.now.k a.trees.now.left.items.now a.trees.now.left.coords.now a.p a.trees.now.right.items.now a.trees.now.right.coords.now a.right.from a.within.radius (edge_of a.within.edge) a.right.to distances held (filling a.self.now.found a.self.now.lout.now a.self.now.rout.now a.self.now.dout.now) l e in
    let many : let a = c.args in c.last_axis-m.result ≡ hits (passing (edge_of a.within.edge) a.within.radius (row distances)) (a.right.to - a.right.from) = let a = c.args in
    let tile = c.tile in
    hits_row (edge_of a.within.edge) a.within.radius distances (reached c.first_axes.new.sums (get_or a.trees.now.left.coords.now ((a.trees.now.k - 1) * length a.trees.now.left.items.now + a.p) nan) tile.result.now) (a.right.to - a.right.from) (length tile.result.now) tile.ensures.len c.last_axis-m.ensures.holds c.last_axis-m.ensures.value in
    let size : let a = c.args in length part ≡ a.right.to - a.right.from = part_size c.args.trees.now.right.items.now c.args.right.from c.args.right.to c.requires.point_tile.tile.rising c.requires.point_tile.tile.inside in
    let whole : Passing (places_below (length part)) = rw size (sym (all_pass _ _ (sym many ∙ c.if-m-part.true ∙ size))) in
    record { lefts = refl; rights = refl; distances = refl; same = λ h. (omega (arith, h, c.emit_all-self.auto), omega (arith, h, c.emit_all-self.auto)); put = c.emit_all-self.ensures ∙ stored _ whole }

pub emit-self-requires-clause-emits : goal.emit-self-requires-clause-emits
emit-self-requires-clause-emits c =
    let part : List ℕ = let a = c.args in take (a.right.to - a.right.from) (drop a.right.from a.trees.now.right.items.now) in
    let distances : List Float = c.last_axis-m.new.dists in
    let Passing : List ℕ → Type 0 = λ l. let a = c.args in l ≡ places_of (passing (edge_of a.within.edge) a.within.radius (row distances)) (a.right.to - a.right.from) in
    let held : let a = c.args in Holds distances (a.right.to - a.right.from) (sum_to a.trees.now.left.coords.now (length a.trees.now.left.items.now) a.p a.trees.now.right.coords.now (length a.trees.now.right.items.now) a.right.from a.trees.now.k) = let a = c.args in
    let tile = c.tile in
    measured a.trees.now.k a.trees.now.left.items.now a.trees.now.left.coords.now a.p a.trees.now.right.items.now a.trees.now.right.coords.now a.right.from (a.right.to - a.right.from) c.first_axes.new.sums distances tile.result.now c.requires.point_tile.some_axes (rw (c.columns-one.ensures.number, c.columns-one.ensures.coords, c.columns-many.ensures.number, c.columns-many.ensures.coords) at c.first_axes.ensures.holds) tile.ensures.value tile.ensures.len c.last_axis-m.ensures.holds in
    let many : let a = c.args in c.last_axis-m.result ≡ hits (passing (edge_of a.within.edge) a.within.radius (row distances)) (a.right.to - a.right.from) = let a = c.args in
    let tile = c.tile in
    hits_row (edge_of a.within.edge) a.within.radius distances (reached c.first_axes.new.sums (get_or a.trees.now.left.coords.now ((a.trees.now.k - 1) * length a.trees.now.left.items.now + a.p) nan) tile.result.now) (a.right.to - a.right.from) (length tile.result.now) tile.ensures.len c.last_axis-m.ensures.holds c.last_axis-m.ensures.value in
    let size : let a = c.args in length part ≡ a.right.to - a.right.from = part_size c.args.trees.now.right.items.now c.args.right.from c.args.right.to c.requires.point_tile.tile.rising c.requires.point_tile.tile.inside in
    let emits : (m : ℕ) (l : List ℕ) → c.last_axis-m.result ≡ m → Passing l → Emits l m part c.args.self.now.found = λ m l is e. let a = c.args in
    point_emits a.trees.now.k a.trees.now.left.items.now a.trees.now.left.coords.now a.p a.trees.now.right.items.now a.trees.now.right.coords.now a.right.from a.within.radius (edge_of a.within.edge) a.right.to distances held a.self.now.found m l part e (sym is ∙ many) size (omega (arith, c.requires.point_tile.tile.narrow)) c.requires.room.1 in
    let found-places : Passing (take c.last_axis-m.result c.passing_places.new.places) = ap (λ (m : ℕ). take m c.passing_places.new.places) many ∙ (rw size at c.passing_places.ensures) in
    emits _ _ refl found-places

pub returns-clause-gathered : goal.returns-clause-gathered
returns-clause-gathered c =
    let part : List ℕ = let a = c.args in take (a.right.to - a.right.from) (drop a.right.from a.trees.now.right.items.now) in
    let distances : List Float = c.last_axis-m.new.dists in
    let Passing : List ℕ → Type 0 = λ l. let a = c.args in l ≡ places_of (passing (edge_of a.within.edge) a.within.radius (row distances)) (a.right.to - a.right.from) in
    let held : let a = c.args in Holds distances (a.right.to - a.right.from) (sum_to a.trees.now.left.coords.now (length a.trees.now.left.items.now) a.p a.trees.now.right.coords.now (length a.trees.now.right.items.now) a.right.from a.trees.now.k) = let a = c.args in
    let tile = c.tile in
    measured a.trees.now.k a.trees.now.left.items.now a.trees.now.left.coords.now a.p a.trees.now.right.items.now a.trees.now.right.coords.now a.right.from (a.right.to - a.right.from) c.first_axes.new.sums distances tile.result.now c.requires.point_tile.some_axes (rw (c.columns-one.ensures.number, c.columns-one.ensures.coords, c.columns-many.ensures.number, c.columns-many.ensures.coords) at c.first_axes.ensures.holds) tile.ensures.value tile.ensures.len c.last_axis-m.ensures.holds in
    let stored : (l : List ℕ) → Passing l → let a = c.args in let s = filling a.self.now.found a.self.now.lout.now a.self.now.rout.now a.self.now.dout.now in puts s (pairs_at distances (get_or a.trees.now.left.items.now a.p 0) part l) ≡ puts s (of_point (keeps a.trees.now.k a.within.radius (edge_of a.within.edge) a.trees.now.left.items.now a.trees.now.left.coords.now a.trees.now.right.items.now a.trees.now.right.coords.now) a.p a.right.from a.right.to) = λ l e. let a = c.args in
    point_puts a.trees.now.k a.trees.now.left.items.now a.trees.now.left.coords.now a.p a.trees.now.right.items.now a.trees.now.right.coords.now a.right.from a.within.radius (edge_of a.within.edge) a.right.to distances held (filling a.self.now.found a.self.now.lout.now a.self.now.rout.now a.self.now.dout.now) l e in
    let many : let a = c.args in c.last_axis-m.result ≡ hits (passing (edge_of a.within.edge) a.within.radius (row distances)) (a.right.to - a.right.from) = let a = c.args in
    let tile = c.tile in
    hits_row (edge_of a.within.edge) a.within.radius distances (reached c.first_axes.new.sums (get_or a.trees.now.left.coords.now ((a.trees.now.k - 1) * length a.trees.now.left.items.now + a.p) nan) tile.result.now) (a.right.to - a.right.from) (length tile.result.now) tile.ensures.len c.last_axis-m.ensures.holds c.last_axis-m.ensures.value in
    let size : let a = c.args in length part ≡ a.right.to - a.right.from = part_size c.args.trees.now.right.items.now c.args.right.from c.args.right.to c.requires.point_tile.tile.rising c.requires.point_tile.tile.inside in
    let found-places : Passing (take c.last_axis-m.result c.passing_places.new.places) = ap (λ (m : ℕ). take m c.passing_places.new.places) many ∙ (rw size at c.passing_places.ensures) in
    record { lefts = refl; rights = refl; distances = refl; same = λ h. (omega (arith, h, c.emit-self.auto), omega (arith, h, c.emit-self.auto)); put = c.emit-self.ensures ∙ stored _ found-places }
