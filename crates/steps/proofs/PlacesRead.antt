-- How many pairs of places are under two nodes, and where their leaves' places begin and end, as the code read them. Assumes nothing.
use mathlib.Core.Path.{◌≡◌}
use mathlib.Core.List.{List}
use Prim.Native.Nat.{ℕ, ◌*◌, ◌^◌, ◌≤◌}
use native.Mathlib.Nat.{mul-le-mul}
use native.Mathlib.Omega.{arith}
use Rattle.written.specs.LentTree.{Cursor, start}
use Rattle.written.specs.Boxes.{Trees}
use Rattle.written.specs.NodePairs.{NodePair, area}
use Rattle.leaf.specs.Lent.{LeafPair}
use Rattle.steps.specs.Standing.{Within, points_of}

pub area_few : {lstarts rstarts : List ℕ} {l r : Cursor} → Within lstarts l → Within rstarts r → points_of lstarts l * points_of rstarts r ≤ 2 ^ 32
area_few {lstarts} {rstarts} {l} {r} x y =
    let left : points_of lstarts l ≤ 65536 = omega (arith, x.few) in
    let right : points_of rstarts r ≤ 65536 = omega (arith, y.few) in
    let both : points_of lstarts l * points_of rstarts r ≤ 65536 * 65536 = mul-le-mul left right in
    omega (arith, both)

-- how many pairs of places are under s, and where its leaves' places begin and end, as the code read them
pub record PlacesRead (j : Trees) (s : NodePair) (n ls lend rs rend : ℕ) : Type 0 where
  pub pairs : n ≡ area j s
  pub left_from : ls ≡ start j.left s.left.first
  pub left_to : lend ≡ start j.left s.left.end
  pub right_from : rs ≡ start j.right s.right.first
  pub right_to : rend ≡ start j.right s.right.end

-- the loops over two leaves may go over places so read
pub leaves_read : (j : Trees) (s : NodePair) {n ls lend rs rend : ℕ} → PlacesRead j s n ls lend rs rend → LeafPair j.axes j.left.items j.left.coords (start j.left s.left.first) (start j.left s.left.end) j.right.items j.right.coords (start j.right s.right.first) (start j.right s.right.end) → LeafPair j.axes j.left.items j.left.coords ls lend j.right.items j.right.coords rs rend
leaves_read j s x p = rw (x.left_from, x.left_to, x.right_from, x.right_to) p
