-- What the code chose to do with the node pair at hand, what a visit that ends comes to, and that every number fits. Assumes nothing.
use mathlib.Core.Path.{◌≡◌, refl, sym, ap, ◌∙◌}
use mathlib.Core.List.{List, []}
use mathlib.Core.Bool.{Bool, ◌&&◌}
use Prim.Native.Nat.{ℕ, ◌+◌, ◌^◌, ◌≤◌, ◌<◌}
use native.Mathlib.Omega.{arith}
use lib.ListN.{replicate}
use lib.Pow.{pow_mono}
use lib.Ieee.{Float}
use Rattle.written.specs.LentTree.{places, is_leaf}
use Rattle.written.specs.Boxes.{Trees, Boxes, distance}
use Rattle.written.specs.Visits.{Fate, measured, ruled, whole, ends}
use Rattle.written.specs.NodePairs.{NodePair, stem_levels, splits_right}
use Rattle.written.specs.Nearest.{unset, near_ruled_out, near_step, update}
use Rattle.written.specs.Totals.{Totals, none, near_totals}
use Rattle.written.specs.Answers.{Accepts}
use Rattle.written.proofs.Limits.{near_visits_bounded, near_totals_fit, levels_fit}
use Rattle.written.proofs.Laws.RadiusWalk.{Good}
use Rattle.metric.specs.Flat.{boxes_of}
use Rattle.leafnearest.specs.Answers.{answers, Answering}
use Rattle.steps.specs.declared.nodes.Nodes.{Nodes}
use Rattle.steps.specs.declared.tally.Tally.{Tally}
use Rattle.steps.specs.Standing.{pair_at}
use Rattle.steps.specs.Counted.{totals_held, visited}
use Rattle.steps.specs.Ending.{Leaves}
use Rattle.steps.proofs.Counted.{Examined, of_fate}
use Rattle.steps.proofs.Pending.{levels_left}
use Rattle.steps.proofs.Reading.{leaves_read}
use Rattle.steps.proofs.Visiting.{SplitsOn}
use Rattle.walking.specs.Visited.{NeverAbove}
use Rattle.held.specs.Apart.{BoxNoFarther}
use Rattle.held.proofs.BoxFar.{box_no_farther}
use Rattle.nearvisit.specs.declared.moves.Fate.{Fate as Fated}
use Rattle.steps.specs.declared.splitting.Move.{Move}
use Rattle.steps.specs.declared.splitting.Move.TheVariants.{End, Split}
use Rattle.cursor.specs.declared.lent.Side.{Side as HeldSide}
use Rattle.nearvisit.specs.Lent.{HeldUnder}
use Rattle.nearvisit.specs.Moves.{fate_of, move_by, move_of, ruled_out_by}
use Rattle.nearvisit.specs.Held.{Held, held_of, after, FewPairs}
use Rattle.nearest.specs.Walked.{walked}
use Rattle.nearest.proofs.HeldDistances.{ruled_out_is}
use Rattle.nearest.specs.Carrying.{unvisited, examined, from_end, walk_from, nearest_walk, fate_grows, visits_rise}
use Rattle.nearest.proofs.Chosen.{chosen_end, chosen_split}

-- what the code holds before the first visit
pub held_begun : (j : Trees) (t : Tally) (items : List ℕ) (distances : List Float) → (t.found ≡ 0) × (totals_held t ≡ none) → answers items distances ≡ replicate (places j.left) unset → held_of t items distances ≡ unvisited j
held_begun j t items distances e c = λ i. record { answers = c i; totals = e.1 i }

-- and after one node pair more is examined
pub tally_examined : (t t' : Tally) (items : List ℕ) (distances : List Float) → Examined t t' → held_of t' items distances ≡ examined (held_of t items distances)
tally_examined t t' items distances e = λ i. record { answers = answers items distances; totals = e.1 i }

-- boxes play no part in how a visit ends
after_same : (j : Trees) (k : Fate) (s : NodePair) (b : Boxes) (w : Held) → after j k (record { left = s.left; right = s.right; boxes = b }) w ≡ after j k s w
unfolding update
after_same j measured s b w = refl
after_same j ruled s b w = refl
after_same j whole s b w = refl

module _ (j : Trees) (ok : Accepts j) {at : Nodes} {b : Boxes} (good : Good j (levels_left (pair_at at b)) (pair_at at b)) where
  pub leaves_here : Leaves j.axes j.left.starts j.left.items j.left.coords j.right.starts j.right.items j.right.coords at
  leaves_here = leaves_read j ok at good.node

  pub box_here : BoxNoFarther j (pair_at at b)
  unfolding distance
  box_here = box_no_farther j ok (levels_left (pair_at at b)) (pair_at at b) good

  module _ (items : List ℕ) (distances : List Float) (lent : Answering 0 (places j.left) items distances) where
    pub held_here : HeldUnder j.left.starts distances at
    held_here = record { left_within = leaves_here.left_within; held_read = omega (arith, leaves_here.pair.left.inside, lent.1) }

    -- the code asks the distances alone
    asked : ruled_out_by j distances (pair_at at b) ≡ near_ruled_out j (answers items distances) (pair_at at b)
    asked = ruled_out_is j items distances (pair_at at b) (omega (arith, lent.0, lent.1)) (omega (arith, leaves_here.left_within.rising, held_here.held_read))

    abbrev chooses : Bool → Move Fated
    chooses out = move_by out (is_leaf (pair_at at b).left && is_leaf (pair_at at b).right) (splits_right (pair_at at b))

    pub ends_with : {f : Fated} {m : Move Fated} → m ≡ End f → m ≡ move_of j distances (pair_at at b) → near_step j (answers items distances) (pair_at at b) ≡ ends (fate_of f)
    ends_with {f} p q = chosen_end j (answers items distances) (pair_at at b) f (sym p ∙ q ∙ ap chooses asked)

    pub splits_with : {side : HeldSide} {m : Move Fated} → m ≡ Split side → m ≡ move_of j distances (pair_at at b) → SplitsOn j (pair_at at b) (near_step j (answers items distances) (pair_at at b)) side
    splits_with {side} p q = chosen_split j (answers items distances) (pair_at at b) side (sym p ∙ q ∙ ap chooses asked)

    pub ended : {f : Fated} {m : Move Fated} {u : Totals} (w₁ : Held) {w' : Held} → m ≡ End f → m ≡ move_of j distances (pair_at at b) → w₁ ≡ examined (record { answers = answers items distances; totals = u })
        → w' ≡ after j (fate_of f) (pair_at at (boxes_of [] [])) w₁ → w' ≡ walk_from j (pair_at at b) (record { answers = answers items distances; totals = u })
    ended {f} {u = u} w₁ p q v e =
        let w : Held = record { answers = answers items distances; totals = u } in
        e ∙ after_same j (fate_of f) (pair_at at b) (boxes_of [] []) w₁ ∙ ap (after j (fate_of f) (pair_at at b)) v ∙ sym (from_end j (pair_at at b) (fate_of f) w (ends_with p q))

-- ---- every number fits

module _ (j : Trees) (ok : Accepts j) (s : NodePair) (w : Held) {all : Held} (e : all ≡ walked j) (h : NeverAbove (nearest_walk j) (walk_from j s w) all) where
  few_of : (f : Fate) → of_fate f w.totals ≤ of_fate f (near_totals j)
  few_of f = omega (arith, fate_grows j f s w, h (λ y. of_fate f y.totals) (fate_grows j f), ap (λ (y : Held). of_fate f y.totals) e)

  pub few_examined : (t t' : Tally) → totals_held t ≡ w.totals → Examined t t' → FewPairs t'
  few_examined t t' p x =
      let r : totals_held t' ≡ visited w.totals = x.1 ∙ ap visited p in
      let f = near_totals_fit j ok in
      record { measured_few = omega (arith, ap (λ (y : Totals). y.measured) r, few_of measured, f); ruled_few = omega (arith, ap (λ (y : Totals). y.ruled_out) r, few_of ruled, f) }

  -- the node pair at hand is not yet counted among the visits
  pub unvisited_yet : (w.totals.visits < (near_totals j).visits) × ((near_totals j).visits < 2 ^ 25)
  unvisited_yet =
      let r = visits_rise j in
      let p = pow_mono {i = stem_levels j + 1} {j = 25} (omega (arith, levels_fit j ok)) in
      (omega (arith, r s w, h (λ y. y.totals.visits) (λ t y. omega (arith, r t y)), ap (λ (y : Held). y.totals.visits) e), omega (arith, near_visits_bounded j, p))
