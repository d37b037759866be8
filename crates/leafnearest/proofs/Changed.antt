-- A tile's part of the answers, lent and changed, and where it lies. Assumes nothing.
use mathlib.Core.Path.{◌≡◌, sym, ap, ap₂, ◌∙◌}
use mathlib.Core.List.{List, ◌++◌}
use Prim.Native.Nat.{ℕ, ◌+◌, ◌-◌, ◌≤◌, ◌<◌, min}
use native.Mathlib.Omega.{arith}
use lib.ListN.{length, take, drop, take-append-drop, length-take, length-drop}
use lib.Seq.{length-take-le}
use lib.Ieee.{Float}
use Rattle.written.specs.Nearest.{Neighbour, at_each}
use Rattle.leaf.specs.Lent.{LeafPair, TilePair}
use Rattle.leaf.proofs.Parts.{stretch_part}
use Rattle.leafnearest.specs.Answers.{answers}
use Rattle.leafnearest.specs.Each.{Change, changed_from, changed_more}
use Rattle.leafnearest.proofs.Stored.{length_answers, append_answers}

-- ---- where it lies

-- a tile from a on, in a leaf that ends at e, ends at r
pub tile_ends : {a e r : ℕ} → a < e → r ≡ a + min 32 (e - a) → (a ≤ r) × (r ≤ e) × (r ≤ a + 32) × (e - r < e - a)
tile_ends h k = omega arith

-- a left tile, and the right leaf
pub tile_pair : {K : ℕ} {litems : List ℕ} {lcoords : List Float} {ls lend : ℕ} {ritems : List ℕ} {rcoords : List Float} {rs rend la le : ℕ} → LeafPair K litems lcoords ls lend ritems rcoords rs rend → ls ≤ la → la ≤ le → le ≤ lend → le ≤ la + 32 → TilePair K ritems rcoords rs rend litems lcoords la le
tile_pair h low rising inside narrow =
    record { pair = record { some_axes = h.some_axes; few_axes = h.few_axes; left = h.right; right = stretch_part h.left low rising inside }; narrow = narrow }

-- the places from a up to r, in a stretch from s up to e
module _ {s a r e : ℕ} (h : s ≤ a) (l : a ≤ r) (k : r ≤ e) where
  pub part_place : a + (r - s - (a - s)) ≡ r
  part_place = omega arith

  pub part_end : a - s + (r - s - (a - s)) ≡ r - s
  part_end = omega arith

  module _ {X : Type 0} (xs : List X) (n : length xs ≡ e - s) where
    pub part_inside : a - s + (r - s - (a - s)) ≤ length xs
    part_inside = omega arith

    pub length_part : length (take (r - s - (a - s)) (drop (a - s) xs)) ≡ r - a
    length_part =
        let size : r - s - (a - s) ≡ r - a = omega arith in
        length-take-le (r - s - (a - s)) (drop (a - s) xs) (simp length-drop (omega arith)) ∙ size

-- ---- changed

halves : (k : ℕ) (items : List ℕ) (dists : List Float) → length items ≡ length dists → answers items dists ≡ answers (take k items) (take k dists) ++ answers (drop k items) (drop k dists)
halves k items dists e =
    ap₂ answers (sym (take-append-drop k items)) (sym (take-append-drop k dists)) ∙ append_answers (take k items) (drop k items) (take k dists) (drop k dists) (simp length-take (rw e))

-- the m answers from n on, which stand for the places from p on
pub part_changed : (f : Change) (p n m : ℕ) (items new : List ℕ) (dists near : List Float) → length items ≡ length dists → n + m ≤ length items → length new ≡ length (take m (drop n items)) → length near ≡ length (take m (drop n dists)) → answers new near ≡ at_each f p (answers (take m (drop n items)) (take m (drop n dists))) → {q z : ℕ} → p + m ≡ q → n + m ≡ z → changed_from f q z (answers (take n items ++ (new ++ drop m (drop n items))) (take n dists ++ (near ++ drop m (drop n dists)))) ≡ changed_from f p n (answers items dists)
part_changed f p n m items new dists near same fits li ld e places numbers =
    let a = answers (take n items) (take n dists) in
    let t = answers (take m (drop n items)) (take m (drop n dists)) in
    let r = answers (drop m (drop n items)) (drop m (drop n dists)) in
    let left : length (take n items) ≡ length (take n dists) = simp length-take (rw same) in
    let rest : length (drop n items) ≡ length (drop n dists) = simp length-drop (rw same) in
    let part : length (take m (drop n items)) ≡ length (take m (drop n dists)) = simp length-take (rw rest) in
    let whole : answers items dists ≡ a ++ (t ++ r) = halves n items dists same ∙ ap (λ (l : List Neighbour). a ++ l) (halves m (drop n items) (drop n dists) rest) in
    let many_a : length a ≡ n = length_answers (take n items) (take n dists) left ∙ length-take-le n dists (omega arith) in
    let many_t : length t ≡ m = length_answers (take m (drop n items)) (take m (drop n dists)) part ∙ length-take-le m (drop n dists) (simp length-drop (omega arith)) in
    rw (← places, ← numbers, append_answers (take n items) _ (take n dists) _ left, append_answers new _ near _ (li ∙ part ∙ sym ld), e, whole) (changed_more f p n m a t r many_a many_t)
