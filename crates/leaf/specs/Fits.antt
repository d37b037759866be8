-- Two leaves have at most 2^32 pairs, so that their counts and the counts of all they are counted with can be held. Assumes nothing.
use Rattle.std.specs.Prelude.{List, Bool, true, false, ℕ, zero, suc, ◌-◌, ◌*◌, ◌^◌, ◌≤◌, length, Float}
use Rattle.std.proofs.Common.{zero-le, mul-le-mul, arith, length-append}
use Rattle.written.specs.Places.{Part, over, cross}
use Rattle.written.specs.RadiusWalk.{Found, keep, keep_if, passing, pair_of}
use Rattle.written.specs.Boxes.{Trees, Edge}
use Rattle.written.proofs.Laws.Lists.{perm_length}
use Rattle.written.proofs.Laws.Tiles.{by_tiles_lem}
use Rattle.leaf.specs.Lent.{join_of, stretch, LeafPair}
use Rattle.leaf.specs.Kept.{keeps, of_leaves}

keep_if_few : (b : Bool) (x : Found) → length (keep_if b x) ≤ 1
keep_if_few true x = omega arith
keep_if_few false x = omega arith

keep_few : (j : Trees) (edge : Edge) (radius : Float) (p q : ℕ) → length (keep j edge radius p q) ≤ 1
unfolding keep
keep_few j edge radius p q = keep_if_few (passing j edge radius p q) (pair_of j edge radius p q)

module _ {X : Type 0} where
  over_few : (g : ℕ → List X) (a n k : ℕ) → ((p : ℕ) → length (g p) ≤ k) → length (over g a n) ≤ n * k
  over_few g a zero k h = zero-le
  over_few g a (suc n) k h = simp length-append (omega (arith, h a, over_few g (suc a) n k h))

  cross_few : (f : ℕ → ℕ → List X) (l r : Part) → ((p q : ℕ) → length (f p q) ≤ 1) → length (cross f l r) ≤ l.size * (r.size * 1)
  cross_few f l r h = over_few _ l.from l.size (r.size * 1) (λ p. over_few (f p) r.from r.size 1 (h p))

pub leaf_fits : {K : ℕ} {litems : List ℕ} {lcoords : List Float} {ls lend : ℕ} {ritems : List ℕ} {rcoords : List Float} {rs rend : ℕ} (radius : Float) (edge : Edge)
    → LeafPair K litems lcoords ls lend ritems rcoords rs rend
    → length (of_leaves (keeps K radius edge litems lcoords ritems rcoords) ls lend rs rend) ≤ 2 ^ 32
leaf_fits {K} {litems} {lcoords} {ls} {lend} {ritems} {rcoords} {rs} {rend} radius edge l =
    let f = keeps K radius edge litems lcoords ritems rcoords in
    let left : lend - ls ≤ 65536 = omega (arith, l.left.inside, l.left.few) in
    let right : (rend - rs) * 1 ≤ 65536 = omega (arith, l.right.inside, l.right.few) in
    let area : (lend - ls) * ((rend - rs) * 1) ≤ 65536 * 65536 = mul-le-mul left right in
    omega (arith, area, cross_few f (stretch ls lend) (stretch rs rend) (keep_few (join_of K litems lcoords ritems rcoords) edge radius), perm_length (by_tiles_lem f (stretch ls lend) (stretch rs rend)))
