-- What a visit that ends leaves, from what the calls of its arm ensure; and that boxes play no part in it. Assumes nothing.
use mathlib.Core.Path.{◌≡◌, refl, sym, ap, ap₂, ◌∙◌}
use mathlib.Core.List.{List}
use mathlib.Core.Bool.{Bool, true, false}
use Prim.Native.Nat.{ℕ, ◌+◌}
use native.Mathlib.Nat.{add-zero}
use lib.ListN.{length}
use lib.Ieee.{Float}
use Rattle.written.specs.Boxes.{Trees, Boxes, Edge}
use Rattle.written.specs.Visits.{Fate, measured, ruled, whole}
use Rattle.written.specs.NodePairs.{NodePair, area}
use Rattle.written.specs.RadiusWalk.{Found, leaf_pair}
use Rattle.written.specs.Totals.{Totals}
use Rattle.leaf.specs.Kept.{keeps, of_leaves}
use Rattle.rooms.specs.Rooms.{Filling, filling, puts}
use Rattle.rooms.specs.Stored.{leaf_kept}
use Rattle.steps.specs.declared.tally.Tally.{Tally}
use Rattle.steps.specs.Counted.{totals_held, adding}
use Rattle.steps.proofs.PlacesRead.{PlacesRead}
use Rattle.radiusvisit.specs.Work.{Work, work_of, finding, after}

-- ---- the four ways to end

module _ (j : Trees) (radius : Float) (edge : Edge) (s : NodePair) where
  -- what the loops over two leaves find
  abbrev pub leaf_loops : (ls lend rs rend : ℕ) → List Found
  leaf_loops ls lend rs rend = of_leaves (keeps j.axes radius edge j.left.items j.left.coords j.right.items j.right.coords) ls lend rs rend

  -- is what the walk's leaf pair finds
  loops_find : {n ls lend rs rend : ℕ} → PlacesRead j s n ls lend rs rend → leaf_loops ls lend rs rend ≡ leaf_pair j edge radius s
  loops_find x = rw (x.left_from, x.left_to, x.right_from, x.right_to) (leaf_kept j radius edge s)

  -- the work done, by what was found and by the totals
  ended : (counting : Bool) (k : Fate) (w : Work) {n : ℕ} {f : Filling} {t : Totals} → n ≡ area j s → f ≡ finding counting k (leaf_pair j edge radius s) (area j s) w.fill → t ≡ adding k n w.totals → record { fill = f; totals = t } ≡ after j edge radius counting s k w
  ended counting k w e g h = ap₂ {C = Work} (λ (f : Filling) (t : Totals). record { fill = f; totals = t }) g (h ∙ ap (λ (n : ℕ). adding k n w.totals) e)

  module _ (t u : Tally) {n : ℕ} where
    pub measured_count : (a b : List ℕ) (d : List Float) {ls lend rs rend more : ℕ} → PlacesRead j s n ls lend rs rend → more ≡ length (leaf_loops ls lend rs rend) → u.found ≡ t.found + more → totals_held u ≡ adding measured n (totals_held t) → work_of u a b d ≡ after j edge radius true s measured (work_of t a b d)
    measured_count a b d x m g h =
        let all : u.found ≡ t.found + length (leaf_pair j edge radius s) = g ∙ ap (◌+◌ t.found) (m ∙ ap length (loops_find x)) in
        ended true measured (work_of t a b d) x.pairs (ap (λ (k : ℕ). filling k a b d) all) h

    pub measured_pairs : (a b : List ℕ) (d : List Float) {a' b' : List ℕ} {d' : List Float} {ls lend rs rend found : ℕ} → PlacesRead j s n ls lend rs rend → filling found a' b' d' ≡ puts (filling t.found a b d) (leaf_loops ls lend rs rend) → u.found ≡ found → totals_held u ≡ adding measured n (totals_held t) → work_of u a' b' d' ≡ after j edge radius false s measured (work_of t a b d)
    measured_pairs a b d {a'} {b'} {d'} x p g h =
        ended false measured (work_of t a b d) x.pairs (ap (λ (k : ℕ). filling k a' b' d') g ∙ p ∙ ap (puts (filling t.found a b d)) (loops_find x)) h

    pub ruled_none : (counting : Bool) (a b : List ℕ) (d : List Float) → n ≡ area j s → u.found ≡ t.found → totals_held u ≡ adding ruled n (totals_held t) → work_of u a b d ≡ after j edge radius counting s ruled (work_of t a b d)
    unfolding puts
    ruled_none true a b d e g h = ended true ruled (work_of t a b d) e (ap (λ (k : ℕ). filling k a b d) (g ∙ sym (add-zero t.found))) h
    ruled_none false a b d e g h = ended false ruled (work_of t a b d) e (ap (λ (k : ℕ). filling k a b d) g) h

    pub whole_all : (a b : List ℕ) (d : List Float) → n ≡ area j s → u.found ≡ t.found + n → totals_held u ≡ adding whole n (totals_held t) → work_of u a b d ≡ after j edge radius true s whole (work_of t a b d)
    whole_all a b d e g h = ended true whole (work_of t a b d) e (ap (λ (k : ℕ). filling k a b d) (g ∙ ap (◌+◌ t.found) e)) h

-- ---- boxes play no part

pub after_same : (j : Trees) (edge : Edge) (radius : Float) (counting : Bool) (s : NodePair) (b : Boxes) (k : Fate) (w : Work) → after j edge radius counting (record { left = s.left; right = s.right; boxes = b }) k w ≡ after j edge radius counting s k w
unfolding leaf_pair
after_same j edge radius counting s b k w = refl
