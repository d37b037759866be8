-- One visit of a walk over two accepted trees, and its law: a split shares out the pairs of places, and points stay in their boxes. Assumes nothing.
use Rattle.std.specs.Prelude.{◌≡◌, Bool, not, ◌&&◌, ◌||◌, cond, ◌≢◌, T, ltb, eqb}
use Rattle.std.proofs.Math.Path.{refl}
use Rattle.std.proofs.Common.{sym, ap, subst, true≢false, inl, inr, mod-lt, arith, eqb→eq}
use Rattle.std.proofs.Math.Bool.{true, false}
use Prim.Native.Nat.{ℕ, zero, suc, ◌+◌, ◌-◌, ◌≤◌, ◌<◌}
use Rattle.std.proofs.lemmas.List.{get_or-replicate}
use Rattle.std.specs.Float.{nan, inf}
use Rattle.std.specs.Float.Ieee.{le}
use Rattle.std.specs.Float.Ieee.Scale.{finite}
use Rattle.rounding.proofs.Order.{finite_known, bottom_le, le_top}
use Rattle.written.specs.Places.{In}
use Rattle.written.specs.LentTree.{Tree, places, start, coord, Cursor, root, span, is_leaf, near, far, Node, the_root, near_of, far_of, axis, pivot, part}
use Rattle.written.specs.Check.{is_top}
use Rattle.written.specs.Boxes.{Trees, Boxes, everywhere, lowered, raised}
use Rattle.written.specs.Visits.{whole, is}
use Rattle.written.specs.NodePairs.{Side, left_side, right_side, NodePair, tree_of, cursor_of, corner, moved, root_pair, stem_levels, no_leaf, picked, cut_at, cut_by, near_half, far_half, halves, split, descend, visit, left_part, right_part}
use Rattle.written.proofs.Laws.Tests.{either, not_zero}
use Rattle.written.proofs.Laws.Places.{Halves, in_first, in_then, halves_all}
use Rattle.written.proofs.Laws.Covered.{Cut, cut_left, cut_right}
use Rattle.written.proofs.Laws.Walks.{Allows, Onward}
use Rattle.written.proofs.Laws.LentTree.{Laid, On, on_node, part_halves, part_in}
use Rattle.written.proofs.Laws.Boxes.{Within, Sized, sized_lowered, sized_raised, within_lowered, within_raised, apart_lowered, apart_raised}

-- ---- accepted trees

-- no point of the near half is above the pivot, none of the far half below it, and a pivot of +inf has no point in the far half
pub record Parted (K : ℕ) (t : Tree) (c : Cursor) : Type 0 where
  pub below : (p : ℕ) → In p (part t (near c)) → T (le (coord t (axis K c) p) (pivot t c))
  pub above : (p : ℕ) → In p (part t (far c)) → T (le (pivot t c) (coord t (axis K c) p))
  pub shut : is_top (pivot t c) ≡ true → (part t (far c)).size ≡ 0

-- what the walks use of a tree that the check accepts
pub record Accepted (K : ℕ) (t : Tree) : Type 0 where
  pub some_axis : 0 < K
  pub few_axes : K ≤ 4
  pub laid : Laid t
  pub finites : (d p : ℕ) → d < K → p < places t → T (finite (coord t d p))
  pub parted : (c : Cursor) → Node t c → 0 < c.rest → Parted K t c

-- ---- one side of a node pair: its points are in the box whose numbers stand from i on

abbrev pub Boxed : ℕ → Tree → ℕ → Cursor → Boxes → Type 0
Boxed K t i c b = (p : ℕ) → In p (part t c) → Within K t i b p

module _ (K : ℕ) (t : Tree) (ok : Accepted K t) (i : ℕ) (i≤4 : i ≤ 4) (c : Cursor) (n : Node t c) (h : 0 < c.rest) (b : Boxes) (s : Sized b) (w : Boxed K t i c b) where
  axis_below : axis K c < K
  axis_below = mod-lt _ ok.some_axis

  here_halves : Halves (part t c) (part t (near c)) (part t (far c))
  here_halves = part_halves t c ok.laid n

  boxed_near : Boxed K t i (near c) (lowered b (i + axis K c) (pivot t c))
  boxed_near p x = within_lowered K t i (axis K c) b (pivot t c) p (w p (in_first here_halves x)) (omega (arith, axis_below, s.maxs_size, ok.few_axes)) ((ok.parted c n h).below p x)

  boxed_far : Boxed K t i (far c) (raised b (i + axis K c) (pivot t c))
  boxed_far p x = within_raised K t i (axis K c) b (pivot t c) p (w p (in_then here_halves x)) (omega (arith, axis_below, s.mins_size, ok.few_axes)) ((ok.parted c n h).above p x)

  -- a pivot of +inf: the near half has all the points
  boxed_all : Boxed K t i (near c) b
  boxed_all p x = w p (in_first here_halves x)

-- ---- a node pair with d levels left

module _ (j : Trees) where
  pub record Good (d : ℕ) (s : NodePair) : Type 0 where
    pub node : (x : Side) → Node (tree_of j x) (cursor_of x s)
    pub boxed : (x : Side) → Boxed j.axes (tree_of j x) (corner x) (cursor_of x s) s.boxes
    pub left_over : d ≡ s.left.rest + s.right.rest
    pub sized : Sized s.boxes

  module _ (ok : (x : Side) → Accepted j.axes (tree_of j x)) where
    K≤4 : j.axes ≤ 4
    K≤4 = (ok left_side).few_axes

    corner≤4 : (x : Side) → corner x ≤ 4
    corner≤4 left_side = omega arith
    corner≤4 right_side = omega arith

    pub good_start : Good (stem_levels j) (root_pair j)
    good_start = record { node = node; boxed = boxed; left_over = refl; sized = record { mins_size = refl; maxs_size = refl } }
      where
        everywhere_in : (t : Tree) → Accepted j.axes t → (i : ℕ) → i ≤ 4 → Boxed j.axes t i (root t) everywhere
        everywhere_in t a i h p x d y =
            let w = finite_known (coord t d p) (a.finites d p y (part_in t (root t) a.laid the_root x)) in
            (rw (get_or-replicate 8 (i + d) (inf true) nan (omega (arith, a.few_axes))) (bottom_le (coord t d p) w), rw (get_or-replicate 8 (i + d) (inf false) nan (omega (arith, a.few_axes))) (le_top (coord t d p) w))

        node : (x : Side) → Node (tree_of j x) (cursor_of x (root_pair j))
        node left_side = the_root
        node right_side = the_root

        boxed : (x : Side) → Boxed j.axes (tree_of j x) (corner x) (cursor_of x (root_pair j)) everywhere
        boxed left_side = everywhere_in j.left (ok left_side) 0 (omega arith)
        boxed right_side = everywhere_in j.right (ok right_side) 4 (omega arith)

    module _ (d : ℕ) (s : NodePair) (g : Good (suc d) s) where
      -- a cursor put anew on the side x: what holds of it, and what stays of the other side
      node_moved : (x : Side) (c : Cursor) (b : Boxes) → Node (tree_of j x) c → (y : Side) → Node (tree_of j y) (cursor_of y (moved x c b s))
      node_moved left_side c b n left_side = n
      node_moved left_side c b n right_side = g.node right_side
      node_moved right_side c b n left_side = g.node left_side
      node_moved right_side c b n right_side = n

      boxed_moved : (x : Side) (c : Cursor) (b : Boxes) → Boxed j.axes (tree_of j x) (corner x) c b
          → ((y : Side) → corner y ≢ corner x → Boxed j.axes (tree_of j y) (corner y) (cursor_of y s) b) → (y : Side) → Boxed j.axes (tree_of j y) (corner y) (cursor_of y (moved x c b s)) b
      boxed_moved left_side c b w o left_side = w
      boxed_moved left_side c b w o right_side = o right_side (λ e. omega arith)
      boxed_moved right_side c b w o left_side = o left_side (λ e. omega arith)
      boxed_moved right_side c b w o right_side = w

      rest_moved : (x : Side) (c : Cursor) (b : Boxes) → 0 < (cursor_of x s).rest → c.rest ≡ (cursor_of x s).rest - 1 → d ≡ (moved x c b s).left.rest + (moved x c b s).right.rest
      rest_moved left_side c b h e = omega (arith, g.left_over)
      rest_moved right_side c b h e = omega (arith, g.left_over)

      good_moved : (x : Side) (c : Cursor) (b : Boxes) → 0 < (cursor_of x s).rest → c.rest ≡ (cursor_of x s).rest - 1 → Node (tree_of j x) c → Sized b → Boxed j.axes (tree_of j x) (corner x) c b
          → ((y : Side) → corner y ≢ corner x → Boxed j.axes (tree_of j y) (corner y) (cursor_of y s) b) → Good d (moved x c b s)
      good_moved x c b h e n z w o = record { node = node_moved x c b n; boxed = boxed_moved x c b w o; left_over = rest_moved x c b h e; sized = z }

      -- the other side's numbers do not stand where the boxes change
      apart : (x y : Side) → corner y ≢ corner x → (a : ℕ) → a < j.axes → (d : ℕ) → d < j.axes → corner y + d ≢ corner x + a
      apart left_side left_side o a h d k e = o refl
      apart left_side right_side o a h d k e = omega (arith, K≤4)
      apart right_side left_side o a h d k e = omega (arith, K≤4)
      apart right_side right_side o a h d k e = o refl

      module _ (x : Side) (h : 0 < (cursor_of x s).rest) where
        abbrev K : ℕ
        K = j.axes

        abbrev t : Tree
        t = tree_of j x

        abbrev c : Cursor
        c = cursor_of x s

        cut_apart : (y : Side) → corner y ≢ corner x → (d : ℕ) → d < K → corner y + d ≢ cut_at j x s
        cut_apart y o = apart x y o (axis K c) (axis_below K t (ok x) (corner x) (corner≤4 x) c (g.node x) h s.boxes g.sized (g.boxed x))

        good_near : Good d (near_half j x s)
        good_near =
            good_moved x (near c) (lowered s.boxes (cut_at j x s) (cut_by j x s)) h refl (near_of (g.node x) h) (sized_lowered s.boxes (cut_at j x s) (cut_by j x s) g.sized)
            (boxed_near K t (ok x) (corner x) (corner≤4 x) c (g.node x) h s.boxes g.sized (g.boxed x))
            (λ y o p i. apart_lowered K (tree_of j y) (corner y) (cut_at j x s) s.boxes (cut_by j x s) p (cut_apart y o) (g.boxed y p i))

        good_far : Good d (far_half j x s)
        good_far =
            good_moved x (far c) (raised s.boxes (cut_at j x s) (cut_by j x s)) h refl (far_of (g.node x) h) (sized_raised s.boxes (cut_at j x s) (cut_by j x s) g.sized)
            (boxed_far K t (ok x) (corner x) (corner≤4 x) c (g.node x) h s.boxes g.sized (g.boxed x))
            (λ y o p i. apart_raised K (tree_of j y) (corner y) (cut_at j x s) s.boxes (cut_by j x s) p (cut_apart y o) (g.boxed y p i))

        good_all : Good d (moved x (near c) s.boxes s)
        good_all =
            good_moved x (near c) s.boxes h refl (near_of (g.node x) h) g.sized (boxed_all K t (ok x) (corner x) (corner≤4 x) c (g.node x) h s.boxes g.sized (g.boxed x))
            (λ y o. g.boxed y)

    -- ---- the law of a split

    module _ (s : NodePair) where
      abbrev halves_of : (d : ℕ) → Good d s → (x : Side) → Halves (part (tree_of j x) (cursor_of x s)) (part (tree_of j x) (near (cursor_of x s))) (part (tree_of j x) (far (cursor_of x s)))
      halves_of d g x = part_halves (tree_of j x) (cursor_of x s) (ok x).laid (g.node x)

      cut : (d : ℕ) → Good d s → (x : Side) → Cut (left_part j) (right_part j) s (near_half j x s) (far_half j x s)
      cut d g left_side = cut_left (halves_of d g left_side) refl refl
      cut d g right_side = cut_right (halves_of d g right_side) refl refl

      shut_parts : (d : ℕ) → Good d s → (x : Side) → 0 < (cursor_of x s).rest → is_top (cut_by j x s) ≡ true
          → (left_part j (moved x (near (cursor_of x s)) s.boxes s) ≡ left_part j s) × (right_part j (moved x (near (cursor_of x s)) s.boxes s) ≡ right_part j s)
      shut_parts d g left_side h q = (halves_all (halves_of d g left_side) (((ok left_side).parted s.left (g.node left_side) h).shut q), refl)
      shut_parts d g right_side h q = (refl, halves_all (halves_of d g right_side) (((ok right_side).parted s.right (g.node right_side) h).shut q))

    none_left : (s : NodePair) (x : Side) → 0 ≡ s.left.rest + s.right.rest → 0 < (cursor_of x s).rest → ⊥
    none_left s left_side e h = omega arith
    none_left s right_side e h = omega arith

    law_split : (d : ℕ) (s : NodePair) → Good d s → (x : Side) → 0 < (cursor_of x s).rest → Onward (left_part j) (right_part j) Good d s (split j x s)
    unfolding split
    law_split zero s g x h = absurd (none_left s x g.left_over h)
    law_split (suc d) s g x h = go (is_top (cut_by j x s)) refl
      where
        go : (b : Bool) → is_top (cut_by j x s) ≡ b → Onward (left_part j) (right_part j) Good (suc d) s (halves j b x s)
        go true q = let e = shut_parts s (suc d) g x h q in (good_all d s g x h, e.0, e.1)
        go false q = (good_near d s g x h, good_far d s g x h, cut s (suc d) g x)

    pub picked_rest : (s : NodePair) → (is_leaf s.left && is_leaf s.right) ≡ false → 0 < (cursor_of (picked s) s).rest
    picked_rest s e = go (is_leaf s.left) refl (is_leaf s.right) refl e
      where
        more : Bool
        more = ltb (span s.left) (span s.right)

        go : (x : Bool) → is_leaf s.left ≡ x → (y : Bool) → is_leaf s.right ≡ y → (x && y) ≡ false → 0 < (cursor_of (cond (x || (not y && more)) right_side left_side) s).rest
        go true u true v k = absurd (true≢false k)
        go true u false v k = not_zero s.right.rest v
        go false u true v k = not_zero s.left.rest u
        go false u false v k = by more
          where
            by : (m : Bool) → 0 < (cursor_of (cond m right_side left_side) s).rest
            by true = not_zero s.right.rest v
            by false = not_zero s.left.rest u

    -- both at leaves, or a split
    pub law_descend : (d : ℕ) (s : NodePair) → Good d s → (is_leaf s.left && is_leaf s.right) ≡ false → Onward (left_part j) (right_part j) Good d s (split j (picked s) s)
    law_descend d s g e = law_split d s g (picked s) (picked_rest s e)

    -- ---- a side that spans no leaf has no place

    no_place : (t : Tree) (c : Cursor) → eqb (span c) 0 ≡ true → Node t c → {p : ℕ} → In p (part t c) → ⊥
    no_place t c e n {p} i =
        let z : span c ≡ 0 = eqb→eq (span c) 0 (subst T (sym e) tt) in
        let o : On t c = on_node n in
        let w : c.first ≡ c.end = omega arith in
        omega (arith, ap (start t) w)

    pub no_leaf_lem : (d : ℕ) (s : NodePair) → Good d s → no_leaf s ≡ true → {p q : ℕ} → In p (left_part j s) → In q (right_part j s) → ⊥
    no_leaf_lem d s g e {p} {q} a b =
        elim (either (eqb (span s.left) 0) (eqb (span s.right) 0) e) [ inl u ↦ no_place j.left s.left u (g.node left_side) a | inr u ↦ no_place j.right s.right u (g.node right_side) b ]

  -- where nothing is taken whole, no visit ends so
  split_not_whole : (x : Side) (s : NodePair) → Allows (λ k. is whole k ≡ 0) (split j x s)
  unfolding split
  split_not_whole x s = go (is_top (cut_by j x s))
    where
      go : (top : Bool) → Allows (λ k. is whole k ≡ 0) (halves j top x s)
      go true = tt
      go false = tt

  pub visit_not_whole : (out : Bool) (s : NodePair) → Allows (λ k. is whole k ≡ 0) (visit j out false s)
  visit_not_whole true s = refl
  visit_not_whole false s = go (is_leaf s.left && is_leaf s.right)
    where
      go : (leaf : Bool) → Allows (λ k. is whole k ≡ 0) (descend j leaf s)
      go true = refl
      go false = split_not_whole (picked s) s
