-- For callers: what storing pairs one after the other leaves, and which of the trees' buffers what is kept depends on. Assumes nothing.
use Rattle.std.specs.Prelude.{◌≡◌, List, [], ◌∷◌, ◌++◌, map, ℕ, suc, ◌+◌, length, set, Float}
use Rattle.std.proofs.Math.Path.{refl}
use Rattle.std.proofs.Common.{ap, ◌∙◌, arith}
use Rattle.std.proofs.lemmas.List.Edits.{sets}
use Rattle.written.specs.LentTree.{start}
use Rattle.written.specs.Boxes.{Edge, Trees}
use Rattle.written.specs.NodePairs.{NodePair}
use Rattle.written.specs.RadiusWalk.{Found, leaf_pair}
use Rattle.written.specs.Answers.{PairRooms, pairs_stored}
use Rattle.written.proofs.Laws.Rooms.{sets_stored}
use Rattle.leaf.specs.Kept.{keeps, of_leaves}
use Rattle.rooms.specs.Rooms.{Filling, filling, put, puts}

-- ---- pairs stored in turn

pub puts_append : (s : Filling) (xs ys : List Found) → puts s (xs ++ ys) ≡ puts (puts s xs) ys
unfolding puts
puts_append s [] ys = refl
puts_append s (x ∷ xs) ys = puts_append (put s x) xs ys

-- each of the three buffers by itself, from the place n on
pub puts_sets : (n : ℕ) (a b : List ℕ) (d : List Float) (l : List Found) → puts (filling n a b d) l ≡ filling (n + length l) (sets a n (map (λ x. x.left) l)) (sets b n (map (λ x. x.right) l)) (sets d n (map (λ x. x.distance) l))
unfolding puts
puts_sets n a b d [] = ap (λ (k : ℕ). filling k a b d) (omega arith)
puts_sets n a b d (x ∷ l) =
    let e : suc n + length l ≡ n + suc (length l) = omega arith in
    rw (← e) (puts_sets (suc n) (set a n x.left) (set b n x.right) (set d n x.distance) l)

pub puts_found : (s : Filling) (l : List Found) → (puts s l).found ≡ s.found + length l
puts_found s l = ap (λ (t : Filling). t.found) (puts_sets s.found s.rooms.lefts s.rooms.rights s.rooms.distances l)

-- ---- into rooms that were lent whole

pub all_stored_lem : (b : PairRooms) (l : List Found) → (puts (filling 0 b.lefts b.rights b.distances) l).rooms ≡ pairs_stored l b
all_stored_lem b l =
    ap (λ (t : Filling). t.rooms) (puts_sets 0 b.lefts b.rights b.distances l)
    ∙ rw (sets_stored (map (λ x. x.left) l) b.lefts, sets_stored (map (λ x. x.right) l) b.rights, sets_stored (map (λ x. x.distance) l) b.distances) refl

-- ---- what is kept depends on axes, items and coordinates alone, so that the loops over two leaves find what the walk's leaf pair finds

module _ (j : Trees) where
  pub leaf_kept : (radius : Float) (edge : Edge) (s : NodePair) → of_leaves (keeps j.axes radius edge j.left.items j.left.coords j.right.items j.right.coords) (start j.left s.left.first) (start j.left s.left.end) (start j.right s.right.first) (start j.right s.right.end) ≡ leaf_pair j edge radius s
  unfolding leaf_pair
  leaf_kept radius edge s = refl
