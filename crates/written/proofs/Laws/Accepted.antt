-- What the walks use of a tree that the check accepts follows from its rules. Assumes nothing.
use Rattle.std.specs.Prelude.{◌≡◌, refl, ◌≢◌, ℕ, zero, suc, ◌+◌, ◌*◌, ◌≤◌, ◌<◌, T, Float}
use Rattle.std.proofs.Common.{ap, mod-lt, arith}
use Rattle.std.proofs.Math.Decide.{ℕ_discrete, dec_lt}
use Rattle.std.proofs.Math.Arith.{digits_lt}
use Rattle.std.proofs.Math.Dec.{not_T}
use Rattle.std.specs.Float.{nan, inf, fin}
use Rattle.std.specs.Float.Ieee.{lt, is_nan}
use Rattle.std.specs.Float.Ieee.Scale.{finite}
use Rattle.rounding.proofs.Order.{known, finite_known, not_lt→le}
use Rattle.written.specs.Places.{In}
use Rattle.written.specs.LentTree.{Tree, leaves, places, start, coord, Cursor, span, far, Node, axis, pivot, part}
use Rattle.written.specs.Check.{Rule, rule₁, rule₃, rule₄, rule₅, rule₆, rule₇, refusal}
use Rattle.written.specs.Boxes.{Trees}
use Rattle.written.specs.NodePairs.{Side, left_side, right_side, tree_of}
use Rattle.written.specs.Answers.{Accepts}
use Rattle.written.specs.Rules.{StartsKept, OrderKept, Kept}
use Rattle.written.proofs.Checked.{accepted_means}
use Rattle.written.proofs.Laws.Check.{top_is}
use Rattle.written.proofs.Laws.Places.{in_first, in_then}
use Rattle.written.proofs.Laws.LentTree.{Laid, On, on_node, part_halves, part_in}
use Rattle.written.proofs.Laws.RadiusWalk.{Parted, Accepted}

rising : (f : ℕ → ℕ) (m : ℕ) → ((i : ℕ) → i < m → f i ≤ f (suc i)) → (k i : ℕ) → i ≤ k → k ≤ m → f i ≤ f k
rising f m h zero i x y =
    let z : i ≡ 0 = omega arith in
    rw z (omega arith)
rising f m h (suc k) i x y = go (rising f m h k i) (ℕ_discrete i (suc k))
  where
    go : (i ≤ k → k ≤ m → f i ≤ f k) → Dec (i ≡ suc k) → f i ≤ f (suc k)
    go g (yes e) = rw e (omega arith)
    go g (no n) = omega (arith, g (omega arith) (omega arith), h k (omega arith))

-- rule 4, as the walks use it: starts rise over any number of leaves
pub starts_laid : (t : Tree) → StartsKept t → Laid t
starts_laid t s = record { begins = s.first_zero; rises = λ i k. rising (start t) (leaves t) s.none_falls k i; finishes = s.last_n }

known_of : (x : Float) → x ≢ nan → T (known x)
unfolding is_nan
known_of nan h = absurd (h refl)
known_of (inf s) h = tt
known_of (fin s m e) h = tt

module _ (K : ℕ) (t : Tree) (kept : (r : Rule) → Kept K t r) where
  laid : Laid t
  laid = starts_laid t (kept rule₄)

  finites : (d p : ℕ) → d < K → p < places t → T (finite (coord t d p))
  finites d p x y = kept rule₅ (d * places t + p) (omega (arith, (kept rule₃).2, digits_lt x y))

  module _ (c : Cursor) (n : Node t c) (h : 0 < c.rest) where
    -- a node with a point has a leaf, so its pivot is a number
    spans : (p : ℕ) → In p (part t c) → 0 < span c
    spans p i = go (dec_lt c.first c.end)
      where
        go : Dec (c.first < c.end) → 0 < span c
        go (yes l) = omega arith
        go (no l) =
            let o : On t c = on_node n in
            let e : c.first ≡ c.end = omega arith in
            absurd (omega (arith, ap (start t) e, i))

    pivot_known : (p : ℕ) → In p (part t c) → T (known (pivot t c))
    pivot_known p i = known_of (pivot t c) (kept rule₆ c n h (spans p i)).0

    coord_known : (p : ℕ) → In p (part t c) → T (known (coord t (axis K c) p))
    coord_known p i = finite_known (coord t (axis K c) p) (finites (axis K c) p (mod-lt _ (kept rule₁).0) (part_in t c laid n i))

    no_size : (k : ℕ) → ((p : ℕ) → p < k → ⊥) → k ≡ 0
    no_size zero f = refl
    no_size (suc k) f = absurd (f 0 (omega arith))

    parted : Parted K t c
    parted =
        let o : OrderKept K t c = kept rule₇ c n h in
        let w = part_halves t c laid n in
        record {
          below = λ p i. let k = in_first w i in not_lt→le (pivot t c) (coord t (axis K c) p) (pivot_known p k) (coord_known p k) (not_T (lt (pivot t c) (coord t (axis K c) p)) (o.left_half p i));
          above = λ p i. let k = in_then w i in not_lt→le (coord t (axis K c) p) (pivot t c) (coord_known p k) (pivot_known p k) (not_T (lt (coord t (axis K c) p) (pivot t c)) (o.right_half p i));
          shut = λ e. no_size (part t (far c)).size (λ p k. o.under_top ((top_is (pivot t c)).0 e) ((part t (far c)).from + p) (record { above = omega arith; below = omega arith }));
        }

accepted : (K : ℕ) (t : Tree) → refusal K t ≡ 0 → Accepted K t
accepted K t e =
    let kept = (accepted_means K t).0 e in
    record { some_axis = (kept rule₁).0; few_axes = (kept rule₁).1; laid = laid K t kept; finites = finites K t kept; parted = parted K t kept }

pub both_accepted : (j : Trees) → Accepts j → (x : Side) → Accepted j.axes (tree_of j x)
both_accepted j ok left_side = accepted j.axes j.left ok.0
both_accepted j ok right_side = accepted j.axes j.right ok.1
