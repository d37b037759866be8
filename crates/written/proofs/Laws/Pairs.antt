-- The radius walk over two accepted trees, for pairs and for counts: what it rules out, takes whole, finds and counts. Assumes nothing.
use Rattle.std.specs.Prelude.{◌≡◌, Bool, ◌&&◌, ℕ, ◌≤◌, ◌<◌, T, Float}
use Rattle.std.proofs.Math.Path.{refl, ap₂, subst₂}
use Rattle.std.proofs.Common.{sym, ap, ◌∙◌, arith}
use mathlib.Core.List.{List, [], Permᴰ}
use Rattle.std.proofs.Math.Bool.{true, false}
use Rattle.std.proofs.Math.Logic.{inl, inr}
use Rattle.std.proofs.Math.ListN.{length}
use Rattle.std.specs.Float.Ieee.{le}
use Rattle.rounding.proofs.Boxes.{Finite}
use Rattle.written.specs.Places.{Part, In, cross}
use Rattle.written.specs.LentTree.{places, is_leaf, part}
use Rattle.written.specs.Boxes.{Trees, point, distance, lower, upper, Edge, passes, beyond}
use Rattle.written.specs.Visits.{Fate, measured, ruled, whole, is, Step, gather, Ends}
use Rattle.written.specs.NodePairs.{Side, left_side, right_side, NodePair, tree_of, cursor_of, root_pair, stem_levels, no_leaf, picked, split, descend, visit, left_part, right_part, area, all_places}
use Rattle.written.specs.RadiusWalk.{Found, keep_if, kept, counted, keep, ruled_out, taken_whole, step, walk, leaf_pair, found, count}
use Rattle.written.proofs.Laws.Tests.{either, both}
use Rattle.written.proofs.Laws.Lists.{perm_of_eq, perm_length}
use Rattle.written.proofs.Laws.Visits.{at, height}
use Rattle.written.proofs.Laws.Covered.{Tiled, Fair, finds, counts, ruled_none, whole_all}
use Rattle.written.proofs.Laws.Walks.{Allows, at_runs, height_runs, run_fates, Law, law_onward, run_tiled, run_sound}
use Rattle.written.proofs.Laws.Tiles.{by_tiles_lem}
use Rattle.written.proofs.Laws.LentTree.{part_in, part_root}
use Rattle.written.proofs.Laws.Boxes.{lower_ok, upper_ok, beyond_fails, below_passes}
use Rattle.written.proofs.Laws.RadiusWalk.{Accepted, Good, good_start, law_descend, no_leaf_lem, visit_not_whole}

-- ---- whatever the trees

pub height_walk : (j : Trees) (e : Edge) (r : Float) (c : Bool) → height (walk j e r c) ≤ stem_levels j
unfolding walk
height_walk j e r c = height_runs (step j e r c) (stem_levels j) (root_pair j) _

-- only a count takes node pairs whole
pub walk_not_whole : (j : Trees) (e : Edge) (r : Float) → Ends (λ s k. is whole k ≡ 0) (walk j e r false)
unfolding walk
walk_not_whole j e r = run_fates (step j e r false) (λ k. is whole k ≡ 0) refl allowed (stem_levels j) (root_pair j)
  where
    allowed : (s : NodePair) → Allows (λ k. is whole k ≡ 0) (step j e r false s)
    allowed s = unfold step in visit_not_whole j (ruled_out j e r s) s

-- ---- what is kept says whether the distance passes

module _ (x : Found) where
  pub kept_none : (b : Bool) → keep_if b x ≡ [] → b ≡ false
  kept_none true k = let z : ◌≡◌ {A = ℕ} 1 0 = ap length k in absurd (omega arith)
  kept_none false k = refl

  pub kept_one : (b : Bool) → length (keep_if b x) ≡ 1 → b ≡ true
  kept_one true k = refl
  kept_one false k = absurd (omega arith)

-- ---- accepted trees

module _ (j : Trees) (ok : (x : Side) → Accepted j.axes (tree_of j x)) where
  pub finite_at : (x : Side) (p : ℕ) → p < places (tree_of j x) → Finite (point (tree_of j x) p) j.axes
  finite_at x p h d y = (ok x).finites d p y h

  pub place_of : (d : ℕ) (s : NodePair) → Good j d s → (x : Side) (p : ℕ) → In p (part (tree_of j x) (cursor_of x s)) → p < places (tree_of j x)
  place_of d s g x p a = part_in (tree_of j x) (cursor_of x s) (ok x).laid (g.node x) a

  -- a node pair's bounds hold of each pair of places under it
  module _ (d : ℕ) (s : NodePair) (g : Good j d s) (p q : ℕ) (a : In p (left_part j s)) (b : In q (right_part j s)) where
    abbrev left_finite : Finite (point j.left p) j.axes
    left_finite = finite_at left_side p (place_of d s g left_side p a)

    abbrev right_finite : Finite (point j.right q) j.axes
    right_finite = finite_at right_side q (place_of d s g right_side q b)

    pub lower_here : T (le (lower j.axes s.boxes) (distance j p q))
    lower_here = lower_ok j p q left_finite right_finite s.boxes (g.boxed left_side p a) (g.boxed right_side q b)

    pub upper_here : T (le (distance j p q) (upper j.axes s.boxes))
    upper_here = upper_ok j p q left_finite right_finite s.boxes (g.boxed left_side p a) (g.boxed right_side q b)

  module _ (edge : Edge) (radius : Float) where
    -- ---- one visit

    ruled_ok : (d : ℕ) (s : NodePair) → Good j d s → ruled_out j edge radius s ≡ true → Fair (left_part j) (right_part j) (keep j edge radius) s ruled
    unfolding keep
    ruled_ok d s g e p q a b =
        elim (either (no_leaf s) (beyond edge radius (lower j.axes s.boxes)) e) [
          | inl u ↦ absurd (no_leaf_lem j ok d s g u a b)
          | inr u ↦ rw (beyond_fails edge radius (lower j.axes s.boxes) (distance j p q) (lower_here d s g p q a b) u) refl
        ]

    whole_ok : (c : Bool) (d : ℕ) (s : NodePair) → Good j d s → taken_whole j edge radius c s ≡ true → Fair (left_part j) (right_part j) (keep j edge radius) s whole
    unfolding keep
    whole_ok c d s g e p q a b =
        rw (below_passes edge radius (distance j p q) (upper j.axes s.boxes) (upper_here d s g p q a b) ((both c (passes edge radius (upper j.axes s.boxes))).0 e).1) refl

    abbrev LawAt : Bool → ℕ → NodePair → Step NodePair → Type 0
    LawAt c = Law (step j edge radius c) (left_part j) (right_part j) (keep j edge radius) (Good j)

    law : (c : Bool) (d : ℕ) (s : NodePair) → Good j d s → LawAt c d s (step j edge radius c s)
    unfolding step
    law c d s g = go (ruled_out j edge radius s) refl (taken_whole j edge radius c s) refl
      where
        below : (leaf : Bool) → (is_leaf s.left && is_leaf s.right) ≡ leaf → LawAt c d s (descend j leaf s)
        below true v = tt
        below false v = law_onward (step j edge radius c) (left_part j) (right_part j) (keep j edge radius) (Good j) d s (split j (picked s) s) (law_descend j ok d s g v)

        go : (out : Bool) → ruled_out j edge radius s ≡ out → (all : Bool) → taken_whole j edge radius c s ≡ all → LawAt c d s (visit j out all s)
        go true e all u = ruled_ok d s g e
        go false e true u = whole_ok c d s g u
        go false e false u = below (is_leaf s.left && is_leaf s.right) refl

    -- ---- the walk

    pub walk_tiled : (c : Bool) → Tiled (left_part j) (right_part j) (walk j edge radius c)
    unfolding walk
    walk_tiled c = run_tiled (step j edge radius c) (left_part j) (right_part j) (keep j edge radius) (Good j) (law c) (stem_levels j) (root_pair j) (good_start j ok)

    pub walk_sound : (c : Bool) → Ends (Fair (left_part j) (right_part j) (keep j edge radius)) (walk j edge radius c)
    unfolding walk
    walk_sound c = run_sound (step j edge radius c) (left_part j) (right_part j) (keep j edge radius) (Good j) (law c) (stem_levels j) (root_pair j) (good_start j ok)

    at_walk : (c : Bool) → at (walk j edge radius c) ≡ root_pair j
    unfolding walk
    at_walk c = at_runs (step j edge radius c) (stem_levels j) (root_pair j) _

    pub walk_left : (c : Bool) → left_part j (at (walk j edge radius c)) ≡ all_places j.left
    walk_left c = rw (at_walk c) (part_root j.left (ok left_side).laid)

    pub walk_right : (c : Bool) → right_part j (at (walk j edge radius c)) ≡ all_places j.right
    walk_right c = rw (at_walk c) (part_root j.right (ok right_side).laid)

    -- ---- what it finds and counts

    abbrev lists : NodePair → List Found
    lists s = cross (keep j edge radius) (left_part j s) (right_part j s)

    leaf_ok : (s : NodePair) → Permᴰ (leaf_pair j edge radius s) (lists s)
    unfolding leaf_pair
    leaf_ok s = by_tiles_lem (keep j edge radius) (left_part j s) (right_part j s)

    kept_ok : (s : NodePair) (k : Fate) → Fair (left_part j) (right_part j) (keep j edge radius) s k → Permᴰ (kept (leaf_pair j edge radius s) k) (lists s)
    kept_ok s measured h = leaf_ok s
    kept_ok s ruled h = perm_of_eq (sym (ruled_none (left_part j) (right_part j) (keep j edge radius) s h))
    kept_ok s whole h = leaf_ok s

    counted_ok : (s : NodePair) (k : Fate) → Fair (left_part j) (right_part j) (keep j edge radius) s k → counted (length (leaf_pair j edge radius s)) (area j s) k ≡ length (lists s)
    counted_ok s measured h = perm_length (leaf_ok s)
    counted_ok s ruled h = sym (ap length (ruled_none (left_part j) (right_part j) (keep j edge radius) s h))
    counted_ok s whole h = sym (whole_all (left_part j) (right_part j) (keep j edge radius) s h)

    pub found_perm : Permᴰ (found j edge radius) (cross (keep j edge radius) (all_places j.left) (all_places j.right))
    unfolding found
    found_perm =
        subst₂ (λ (l r : Part). Permᴰ (gather (λ s k. kept (leaf_pair j edge radius s) k) (walk j edge radius false)) (cross (keep j edge radius) l r)) (walk_left false) (walk_right false)
        (finds (left_part j) (right_part j) (keep j edge radius) (λ s k. kept (leaf_pair j edge radius s) k) kept_ok (walk j edge radius false) (walk_tiled false) (walk_sound false))

    pub count_all : count j edge radius ≡ length (cross (keep j edge radius) (all_places j.left) (all_places j.right))
    unfolding count
    count_all =
        counts (left_part j) (right_part j) (keep j edge radius) (λ s k. counted (length (leaf_pair j edge radius s)) (area j s) k) counted_ok (walk j edge radius true) (walk_tiled true) (walk_sound true)
        ∙ ap₂ (λ (l r : Part). length (cross (keep j edge radius) l r)) (walk_left true) (walk_right true)
