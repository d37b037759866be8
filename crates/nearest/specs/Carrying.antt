-- The nearest walk is a walk that takes the far half first: its visits as answers and totals carried along; and its numbers never fall. Assumes nothing.
use mathlib.Core.Path.{◌≡◌, refl, ap, ◌∙◌}
use mathlib.Core.List.{List}
use mathlib.Core.Bool.{false}
use Prim.Native.Nat.{ℕ, zero, suc, ◌+◌, ◌*◌, ◌≤◌, ◌<◌}
use native.Mathlib.Nat.{zero-add}
use native.Mathlib.Omega.{arith}
use lib.ListN.{replicate}
use Rattle.written.specs.LentTree.{places}
use Rattle.written.specs.Boxes.{Trees}
use Rattle.written.specs.Visits.{Fate, measured, ruled, whole, is, Step, ends, goes, forks, Run, stop, one, two, Seen, seen, visits, sum, carries, carry}
use Rattle.written.specs.NodePairs.{NodePair, root_pair, left_part, right_part, area}
use Rattle.written.specs.Nearest.{Neighbour, unset, near_step, update, near_walk, no_points, nearest}
use Rattle.written.specs.Totals.{Totals, none, totals_of, near_totals}
use Rattle.written.proofs.Laws.Walks.{Onward}
use Rattle.written.proofs.Laws.RadiusWalk.{Good}
use Rattle.steps.specs.Counted.{visited, adding}
use Rattle.steps.proofs.Halves.{far_first}
use Rattle.steps.proofs.Counted.{of_fate, some_visits}
use Rattle.steps.proofs.Pending.{levels_left, OnwardFrom, Walk}
use Rattle.nearvisit.specs.Held.{Held, after}
use Rattle.nearest.specs.Walked.{walked}

-- ---- totals added up

abbrev plus : Totals → Totals → Totals
plus t u = record { visits = t.visits + u.visits; measured = t.measured + u.measured; ruled_out = t.ruled_out + u.ruled_out; whole = t.whole + u.whole }

abbrev Run' : Type 0
Run' = Run (Seen (List Neighbour) NodePair)

none_plus : (t : Totals) → plus none t ≡ t
none_plus t = λ i. record { visits = zero-add t.visits i; measured = zero-add t.measured i; ruled_out = zero-add t.ruled_out i; whole = zero-add t.whole i }

-- one node pair more is examined
abbrev pub examined : Held → Held
examined w = record { answers = w.answers; totals = visited w.totals }

module _ (j : Trees) where
  -- the totals of these visits
  abbrev visit_totals : Run' → Totals
  visit_totals = totals_of (λ v. area j v.pair)

  totals_stop : (t : Totals) (v : Seen (List Neighbour) NodePair) (k : Fate) → plus t (visit_totals (stop v k)) ≡ adding k (area j v.pair) (visited t)
  unfolding visits sum
  totals_stop t v k = let e : t.visits + 1 ≡ suc t.visits = omega arith in λ i. record { visits = e i; measured = t.measured + is measured k * area j v.pair; ruled_out = t.ruled_out + is ruled k * area j v.pair; whole = t.whole + is whole k * area j v.pair }

  totals_one : (t : Totals) (v : Seen (List Neighbour) NodePair) (r : Run') → plus t (visit_totals (one v r)) ≡ plus (visited t) (visit_totals r)
  unfolding visits sum
  totals_one t v r =
      let u : Totals = visit_totals r in
      let e : t.visits + suc (visits r) ≡ suc t.visits + visits r = omega arith in
      λ i. record { visits = e i; measured = t.measured + u.measured; ruled_out = t.ruled_out + u.ruled_out; whole = t.whole + u.whole }

  fate_two : (t x y : ℕ) → t + (x + y) ≡ t + y + x
  fate_two t x y = omega arith

  totals_two : (t : Totals) (v : Seen (List Neighbour) NodePair) (r s : Run') → plus t (visit_totals (two v r s)) ≡ plus (plus (visited t) (visit_totals s)) (visit_totals r)
  unfolding visits sum
  totals_two t v r s =
      let x : Totals = visit_totals r in
      let y : Totals = visit_totals s in
      let e : t.visits + suc (visits r + visits s) ≡ suc t.visits + visits s + visits r = omega arith in
      λ i. record { visits = e i; measured = fate_two t.measured x.measured y.measured i; ruled_out = fate_two t.ruled_out x.ruled_out y.ruled_out i; whole = fate_two t.whole x.whole y.whole i }

  -- ---- the walk from a node pair on

  -- before the first visit: item 0 and +inf for each left place
  abbrev pub unvisited : Held
  unvisited = record { answers = replicate (places j.left) unset; totals = none }

  abbrev carried : ℕ → List Neighbour → NodePair → Step NodePair → Run' × List Neighbour
  carried = carries (near_step j) (update j)

  abbrev held_after : Totals → Run' × List Neighbour → Held
  held_after t y = record { answers = y.1; totals = plus t (visit_totals y.0) }

  unfoldable pub walk_from : NodePair → Held → Held
  unfolding near_step update carries visits sum
  walk_from s w = held_after w.totals (carried (levels_left s) w.answers s (near_step j w.answers s))

  answers_walked : no_points j ≡ false → (near_walk j).1 ≡ nearest j
  unfolding nearest
  answers_walked e = rw e

  totals_walked : no_points j ≡ false → visit_totals (near_walk j).0 ≡ near_totals j
  unfolding near_totals
  totals_walked e = rw e

  from_root : walk_from (root_pair j) unvisited ≡ record { answers = (near_walk j).1; totals = plus none (visit_totals (near_walk j).0) }
  unfolding walk_from near_walk
  from_root = refl

  -- from the roots on, all that the walk does
  pub begins : {w : Held} → no_points j ≡ false → w ≡ unvisited → walk_from (root_pair j) w ≡ walked j
  begins h e = ap (walk_from (root_pair j)) e ∙ from_root ∙ (λ i. record { answers = answers_walked h i; totals = (none_plus (visit_totals (near_walk j).0) ∙ totals_walked h) i })

  carried_end : (d : ℕ) (s : NodePair) (k : Fate) (w : Held) → held_after w.totals (carried d w.answers s (ends k)) ≡ after j k s (examined w)
  unfolding carries
  carried_end zero s k w = λ i. record { answers = (after j k s (examined w)).answers; totals = totals_stop w.totals (seen w.answers s) k i }
  carried_end (suc d) s k w = λ i. record { answers = (after j k s (examined w)).answers; totals = totals_stop w.totals (seen w.answers s) k i }

  pub from_end : (s : NodePair) (k : Fate) (w : Held) → near_step j w.answers s ≡ ends k → walk_from s w ≡ after j k s (examined w)
  unfolding walk_from
  from_end s k w e = ap (λ (x : Step NodePair). held_after w.totals (carried (levels_left s) w.answers s x)) e ∙ carried_end (levels_left s) s k w

  pub from_goes : (s t : NodePair) (w : Held) → near_step j w.answers s ≡ goes t → OnwardFrom j s (goes t) → walk_from s w ≡ walk_from t (examined w)
  unfolding walk_from carries
  from_goes s t w e o = go (levels_left s) refl o
    where
      go : (d : ℕ) → levels_left s ≡ d → Onward (left_part j) (right_part j) (Good j) d s (goes t) → walk_from s w ≡ walk_from t (examined w)
      go zero q o = absurd o
      go (suc d) q o =
          let y = carry (near_step j) (update j) (levels_left t) w.answers t in
          rw (q, e, o.0.left_over) (λ i. record { answers = y.1; totals = totals_one w.totals (seen w.answers s) y.0 i })

  pub from_forks : (s t u : NodePair) (w : Held) → near_step j w.answers s ≡ forks t u → OnwardFrom j s (forks t u) → walk_from s w ≡ walk_from t (walk_from u (examined w))
  unfolding walk_from carries
  from_forks s t u w e o = go (levels_left s) refl o
    where
      go : (d : ℕ) → levels_left s ≡ d → Onward (left_part j) (right_part j) (Good j) d s (forks t u) → walk_from s w ≡ walk_from t (walk_from u (examined w))
      go zero q o = absurd o
      go (suc d) q o =
          let y = carry (near_step j) (update j) d w.answers u in
          let x = carry (near_step j) (update j) d y.1 t in
          rw (q, e, ← o.0.left_over, ← o.1.left_over) (λ i. record { answers = x.1; totals = totals_two w.totals (seen w.answers s) x.0 y.0 i })

  abbrev pub nearest_walk : Walk j Held
  nearest_walk = record {
    order = far_first;
    walks = walk_from;
    next = λ w s. near_step j w.answers s;
    examined = examined;
    on_goes = from_goes;
    on_forks = from_forks;
  }

  -- ---- no number falls

  pub fate_grows : (f : Fate) (s : NodePair) (w : Held) → of_fate f w.totals ≤ of_fate f (walk_from s w).totals
  unfolding walk_from
  fate_grows measured s w = omega arith
  fate_grows ruled s w = omega arith
  fate_grows whole s w = omega arith

  pub visits_rise : (s : NodePair) (w : Held) → w.totals.visits < (walk_from s w).totals.visits
  unfolding walk_from
  visits_rise s w = omega (arith, some_visits (carry (near_step j) (update j) (levels_left s) w.answers s).0)
