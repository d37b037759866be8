-- What the tests of specs/Calls.antt say. Assumes nothing.
use mathlib.Core.Path.{◌≡◌}
use mathlib.Core.List.{List}
use mathlib.Core.Bool.{true, ◌&&◌}
use Prim.Native.Nat.{ℕ, ◌*◌}
use lib.ListN.{length}
use lib.Dec.{leb, ltb, eqb}
use lib.Ieee.{Float}
use borrow.Author.Tests.{ltb-true, leb-true, eqb-true}
use Rattle.written.proofs.Laws.Tests.{both}
use Rattle.metric.specs.Lent.{HoldsPlace}
use Rattle.leaf.specs.Lent.{Stretch, LeafPair}
use Rattle.beside.specs.Calls.{place_ok, side_ok, pair_ok, alike_ok}

pub place_held : {K : ℕ} {coords : List Float} {n p : ℕ} → place_ok K coords n p ≡ true → HoldsPlace K coords n p
place_held {K} {coords} {n} {p} e =
    let a = (both (leb K 4 && leb n 65536 && ltb p n) (eqb (length coords) (K * n))).0 e in
    let b = (both (leb K 4 && leb n 65536) (ltb p n)).0 a.0 in
    record { whole = eqb-true (length coords) (K * n) a.1; inside = ltb-true p n b.1 }

side_held : {K : ℕ} {items : List ℕ} {coords : List Float} {from to : ℕ} → side_ok K items coords from to ≡ true → Stretch K items coords from to
side_held {K} {items} {coords} {from} {to} e =
    let n = length items in
    let a = (both (leb n 65536 && leb from to && leb to n) (eqb (length coords) (K * n))).0 e in
    let b = (both (leb n 65536 && leb from to) (leb to n)).0 a.0 in
    let d = (both (leb n 65536) (leb from to)).0 b.0 in
    record { rising = leb-true from to d.1; inside = leb-true to n b.1; few = leb-true n 65536 d.0; whole = eqb-true (length coords) (K * n) a.1 }

pub pair_held : {K : ℕ} {litems : List ℕ} {lcoords : List Float} {ls lend : ℕ} {ritems : List ℕ} {rcoords : List Float} {rs rend : ℕ}
    → pair_ok K litems lcoords ls lend ritems rcoords rs rend ≡ true → LeafPair K litems lcoords ls lend ritems rcoords rs rend
pair_held {K} {litems} {lcoords} {ls} {lend} {ritems} {rcoords} {rs} {rend} e =
    let left = side_ok K litems lcoords ls lend in
    let a = (both (leb 1 K && leb K 4 && left) (side_ok K ritems rcoords rs rend)).0 e in
    let b = (both (leb 1 K && leb K 4) left).0 a.0 in
    let d = (both (leb 1 K) (leb K 4)).0 b.0 in
    record { some_axes = leb-true 1 K d.0; few_axes = leb-true K 4 d.1; left = side_held b.1; right = side_held a.1 }

pub alike_held : {a b c : ℕ} → alike_ok a b c ≡ true → (a ≡ b) × (a ≡ c)
alike_held {a} {b} {c} e =
    let h = (both (eqb a b) (eqb a c)).0 e in
    (eqb-true a b h.0, eqb-true a c h.1)
