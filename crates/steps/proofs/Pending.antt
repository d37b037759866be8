-- A walk as work done from a node pair on, whatever the work is; and what is left to do for the entries that wait. Assumes nothing.
use mathlib.Core.Path.{◌≡◌, refl, subst}
use mathlib.Core.List.{List, [], ◌∷◌}
use mathlib.Core.Bool.{Bool, true, false}
use Prim.Native.Nat.{ℕ, zero, suc, ◌+◌, ◌≤◌}
use native.Mathlib.Omega.{arith}
use lib.Ieee.{Float}
use Rattle.written.specs.Boxes.{Trees, Boxes}
use Rattle.written.specs.Visits.{Step, goes, forks}
use Rattle.written.specs.NodePairs.{NodePair, left_part, right_part}
use Rattle.written.proofs.Laws.Walks.{Onward}
use Rattle.written.proofs.Laws.RadiusWalk.{Good}
use Rattle.steps.specs.declared.nodes.Nodes.{Nodes}
use Rattle.steps.specs.declared.waiting.Waiting.{Waiting}
use Rattle.steps.specs.declared.waiting.Waiting.TheVariants.{Half, Restore}
use Rattle.steps.specs.Standing.{pair_at}
use Rattle.steps.proofs.Halves.{Order, first, second, slot_of, put, waiting_boxes}
use Rattle.cursor.specs.declared.lent.Side.{Side as HeldSide}

-- the levels left below a node pair
abbrev pub levels_left : NodePair → ℕ
levels_left s = s.left.rest + s.right.rest

abbrev pub OnwardFrom : (j : Trees) → NodePair → Step NodePair → Type 0
OnwardFrom j s = Onward (left_part j) (right_part j) (Good j) (levels_left s) s

-- a node pair below s: good for its turn, with a level less
pub record BelowIt (j : Trees) (s t : NodePair) : Type 0 where
  pub good : Good j (levels_left t) t
  pub fewer : suc (levels_left t) ≡ levels_left s

module _ (j : Trees) where
  below_it : (d : ℕ) (s t : NodePair) → levels_left s ≡ suc d → Good j d t → BelowIt j s t
  below_it d s t e g = record { good = subst (λ (n : ℕ). Good j n t) g.left_over g; fewer = omega (arith, g.left_over) }

  pub goes_below : (s t : NodePair) → OnwardFrom j s (goes t) → BelowIt j s t
  goes_below s t o = go (levels_left s) refl o
    where
      go : (d : ℕ) → levels_left s ≡ d → Onward (left_part j) (right_part j) (Good j) d s (goes t) → BelowIt j s t
      go zero q o = absurd o
      go (suc d) q o = below_it d s t q o.0

  pub forks_below : (s t u : NodePair) → OnwardFrom j s (forks t u) → BelowIt j s t × BelowIt j s u
  forks_below s t u o = go (levels_left s) refl o
    where
      go : (d : ℕ) → levels_left s ≡ d → Onward (left_part j) (right_part j) (Good j) d s (forks t u) → BelowIt j s t × BelowIt j s u
      go zero q o = absurd o
      go (suc d) q o = (below_it d s t q o.0, below_it d s u q o.1)

-- ---- a walk, W being what it does

pub record Walk (j : Trees) (W : Type 0) : Type 0 where
  pub order : Order
  -- all that is done from a node pair on
  pub walks : NodePair → W → W
  -- what a visit does
  pub next : W → NodePair → Step NodePair
  -- one node pair more is examined
  pub examined : W → W
  pub on_goes : (s t : NodePair) (w : W) → next w s ≡ goes t → OnwardFrom j s (goes t) → walks s w ≡ walks t (examined w)
  pub on_forks : (s t u : NodePair) (w : W) → next w s ≡ forks t u → OnwardFrom j s (forks t u) → walks s w ≡ walks (second order t u) (walks (first order t u) (examined w))

module _ {j : Trees} {W : Type 0} (k : Walk j W) where
  -- what is left to do for the entries that wait, the first being taken first, where the boxes are b
  unfoldable pub resume : Boxes → List Waiting → W → W
  resume b [] w = w
  resume b (Half side axis lo hi v at ∷ ws) w = resume (put (slot_of side axis) lo hi b) ws (k.walks (pair_at at (waiting_boxes k.order (slot_of side axis) lo hi v b)) w)
  resume b (Restore side axis lo hi ∷ ws) w = resume (put (slot_of side axis) lo hi b) ws w

  -- the node pair at hand comes first, where there is one
  abbrev pub ahead : (here : Bool) → NodePair → W → W
  ahead true s w = k.walks s w
  ahead false s w = w

  pub resume_none : (b : Boxes) (w : W) → resume b [] w ≡ w
  unfolding resume
  resume_none b w = refl

  pub resume_half : (b : Boxes) (side : HeldSide) (axis : ℕ) (lo hi v : Float) (at : Nodes) (ws : List Waiting) (w : W)
      → resume b (Half side axis lo hi v at ∷ ws) w ≡ resume (put (slot_of side axis) lo hi b) ws (k.walks (pair_at at (waiting_boxes k.order (slot_of side axis) lo hi v b)) w)
  unfolding resume
  resume_half b side axis lo hi v at ws w = refl

  pub resume_back : (b : Boxes) (side : HeldSide) (axis : ℕ) (lo hi : Float) (ws : List Waiting) (w : W) → resume b (Restore side axis lo hi ∷ ws) w ≡ resume (put (slot_of side axis) lo hi b) ws w
  unfolding resume
  resume_back b side axis lo hi ws w = refl

  -- a number that falls from no node pair on does not fall for the entries that wait
  module _ (f : W → ℕ) (grows : (s : NodePair) (w : W) → f w ≤ f (k.walks s w)) where
    pub resume_grows : (b : Boxes) (ws : List Waiting) (w : W) → f w ≤ f (resume b ws w)
    unfolding resume
    resume_grows b [] w = omega arith
    resume_grows b (Half side axis lo hi v at ∷ ws) w =
        let s : NodePair = pair_at at (waiting_boxes k.order (slot_of side axis) lo hi v b) in
        omega (arith, grows s w, resume_grows (put (slot_of side axis) lo hi b) ws (k.walks s w))
    resume_grows b (Restore side axis lo hi ∷ ws) w = resume_grows (put (slot_of side axis) lo hi b) ws w
