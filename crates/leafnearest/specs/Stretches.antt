-- For the nearest walk: a leaf pair's change of all answers is that of its left leaf's stretch, which is what the code is lent, and which trees the lent points belong to plays no part. Assumes nothing.
use Rattle.std.specs.Prelude.{◌≡◌, refl, cond, List, ◌++◌, ℕ, ◌+◌, ◌-◌, ◌≤◌, ◌<◌, length, take, drop}
use Rattle.std.proofs.Common.{sym, ap, ap₂, ◌∙◌, zero-add, arith, le-leb, lt-ltb, le-ltb, length-drop, take-append-drop, length-take-le, drop-drop}
use Rattle.std.proofs.lemmas.Bool.{lt-leb}
use Rattle.written.specs.Places.{Part, inside}
use Rattle.written.specs.Boxes.{Trees}
use Rattle.written.specs.NodePairs.{NodePair, left_part, right_part}
use Rattle.written.specs.Nearest.{Neighbour, at_each, improve, offer, update}
use Rattle.leaf.specs.Lent.{join_of, stretch}
use Rattle.leafnearest.specs.Answers.{improved}
use Rattle.leafnearest.specs.Each.{Change, each_is, each_agree, each_append}

-- a change at the places of one stretch alone
module _ (f : Change) (from to : ℕ) where
  abbrev only : Change
  only p y = cond (inside p (stretch from to)) (f p y) y

  below : (p : ℕ) (y : Neighbour) → p < from → only p y ≡ y
  below p y h = rw (lt-leb from p h)

  above : (p : ℕ) (y : Neighbour) → from ≤ to → to ≤ p → only p y ≡ y
  above p y r h = rw (le-leb from p (omega arith), le-ltb p (from + (to - from)) (omega arith))

  here : (p : ℕ) (y : Neighbour) → from ≤ p → p < to → only p y ≡ f p y
  here p y h l = rw (le-leb from p h, lt-ltb p (from + (to - from)) (omega arith))

  three_parts : (a t r : List Neighbour) → from ≤ to → length a ≡ from → length t ≡ to - from → at_each only 0 (a ++ (t ++ r)) ≡ a ++ (at_each f from t ++ r)
  three_parts a t r h m n =
      let first : at_each only 0 a ≡ a = each_is only 0 a a refl (λ i l. below (0 + i) _ (omega arith)) in
      let middle : at_each only (0 + length a) t ≡ at_each f from t = each_agree only f (0 + length a) from t (λ i l y. rw (m, zero-add from) (here (from + i) y (omega arith) (omega arith))) in
      let last : at_each only (0 + length a + length t) r ≡ r = each_is only (0 + length a + length t) r r refl (λ i l. above (0 + length a + length t + i) _ h (omega arith)) in
      rw (each_append only 0 a (t ++ r), each_append only (0 + length a) t r, first, middle, last)

  only_stretch : (c : List Neighbour) → from ≤ to → to ≤ length c → at_each only 0 c ≡ take from c ++ (at_each f from (take (to - from) (drop from c)) ++ drop to c)
  only_stretch c h l =
      let n = to - from in
      let t = take n (drop from c) in
      let to_end : from + n ≡ to = omega arith in
      let rest : drop n (drop from c) ≡ drop to c = drop-drop n from c ∙ ap (λ (m : ℕ). drop m c) to_end in
      let all : take from c ++ (t ++ drop to c) ≡ c = ap (λ (r : List Neighbour). take from c ++ (t ++ r)) (sym rest) ∙ ap (λ (r : List Neighbour). take from c ++ r) (take-append-drop n (drop from c)) ∙ take-append-drop from c in
      ap (at_each only 0) (sym all) ∙ three_parts (take from c) t (drop to c) h (length-take-le from c (omega arith)) (length-take-le n (drop from c) (simp length-drop (omega arith)))

-- what a leaf pair changes
pub update_is : (j : Trees) (c : List Neighbour) (s : NodePair) (ls lend rs rend : ℕ) → left_part j s ≡ stretch ls lend → right_part j s ≡ stretch rs rend → ls ≤ lend → lend ≤ length c → update j c s ≡ take ls c ++ (improved j ls rs rend (take (lend - ls) (drop ls c)) ++ drop lend c)
unfolding update
update_is j c s ls lend rs rend l r h k =
    ap₂ (λ (x y : Part). at_each (λ p old. cond (inside p x) (improve (offer j p) y.from y.size old) old) 0 c) l r ∙ only_stretch (λ p. improve (offer j p) rs (rend - rs)) ls lend c h k

-- ---- the trees of the lent points

pub same_offers : (j : Trees) → offer (join_of j.axes j.left.items j.left.coords j.right.items j.right.coords) ≡ offer j
unfolding offer
same_offers j = refl

pub same_improved : (j : Trees) (la rs rend : ℕ) (c : List Neighbour) → improved (join_of j.axes j.left.items j.left.coords j.right.items j.right.coords) la rs rend c ≡ improved j la rs rend c
same_improved j la rs rend c = ap (λ (o : ℕ → ℕ → Neighbour). at_each (λ p. improve (o p) rs (rend - rs)) la c) (same_offers j)
