-- The loop's invariant, for any walk: what is done and what waits come to what the whole walk does. Assumes nothing.
use mathlib.Core.Path.{◌≡◌, refl, sym, ap, ◌∙◌, subst, subst₂}
use mathlib.Core.List.{List, [], ◌∷◌}
use mathlib.Core.Bool.{Bool, true, false}
use Prim.Native.Nat.{ℕ, suc, ◌+◌, ◌-◌, ◌≤◌, ◌<◌}
use native.Mathlib.Omega.{arith}
use lib.ListN.{length}
use Rattle.std.specs.Prelude.{Option, Some, None}
use Rattle.written.specs.LentTree.{axis}
use Rattle.written.specs.Boxes.{Trees, Boxes, everywhere}
use Rattle.written.specs.NodePairs.{NodePair, root_pair, stem_levels}
use Rattle.written.specs.Answers.{Accepts}
use Rattle.written.proofs.Laws.Boxes.{Sized}
use Rattle.written.proofs.Laws.RadiusWalk.{Good, good_start}
use Rattle.written.proofs.Laws.Accepted.{both_accepted}
use Rattle.written.proofs.Limits.{levels_fit}
use Rattle.cursor.specs.Held.{node_of, root_over}
use Rattle.steps.specs.declared.nodes.Nodes.{Nodes}
use Rattle.steps.specs.declared.waiting.Waiting.{Waiting}
use Rattle.steps.specs.declared.waiting.Waiting.TheVariants.{Half, Restore}
use Rattle.steps.specs.Popping.{nowhere}
use Rattle.steps.specs.Standing.{pair_at}
use Rattle.steps.proofs.Halves.{Order, slot_of, put, waiting_boxes}
use Rattle.steps.proofs.Waits.{view}
use Rattle.steps.proofs.Pending.{levels_left, Walk, resume, resume_none, ahead}

-- each half that waits is good for its turn and leaves room for what it will push; each entry names an axis
abbrev pub Sound : Trees → Order → Boxes → List Waiting → Type 0
Sound j o b [] = Unit {0}
Sound j o b (Half side axis lo hi v at ∷ ws) =
    Good j (levels_left (pair_at at b)) (pair_at at (waiting_boxes o (slot_of side axis) lo hi v b))
    × (suc (length ws) + levels_left (pair_at at b) ≤ stem_levels j)
    × (axis < 4)
    × Sound j o (put (slot_of side axis) lo hi b) ws
Sound j o b (Restore side axis lo hi ∷ ws) = (axis < 4) × Sound j o (put (slot_of side axis) lo hi b) ws

module _ {j : Trees} {W : Type 0} (k : Walk j W) where
  pub record Going (all : W) (at : Nodes) (b : Boxes) (w : W) (stack : List Waiting) (len : ℕ) (here : Bool) : Type 0 where
    pub owes : resume k b (view len stack) (ahead k here (pair_at at b) w) ≡ all
    pub size : length stack ≡ 25
    pub sized : Sized b
    pub deep : len ≤ stem_levels j
    pub good : here ≡ true → Good j (levels_left (pair_at at b)) (pair_at at b)
    pub depth : here ≡ true → len + levels_left (pair_at at b) ≤ stem_levels j
    pub waits : Sound j k.order b (view len stack)

  -- ---- the start

  pub start : Accepts j → (at : Nodes) (stack : List Waiting) {all : W} {b : Boxes} {w : W} → length stack ≡ 25
      → node_of at.left ≡ root_over (length j.left.starts - 1) → node_of at.right ≡ root_over (length j.right.starts - 1)
      → b ≡ everywhere → k.walks (root_pair j) w ≡ all → Going all at b w stack 0 true
  start ok at stack {all} {b} {w} h l r eb ew =
      let s : pair_at at everywhere ≡ root_pair j = λ i. record { left = l i; right = r i; boxes = everywhere } in
      subst (λ (c : Boxes). Going all at c w stack 0 true) (sym eb)
      (record {
        owes = resume_none k everywhere _ ∙ ap (λ (p : NodePair). k.walks p w) s ∙ ew;
        size = h;
        sized = record { mins_size = refl; maxs_size = refl };
        deep = omega arith;
        good = λ e. subst (λ (p : NodePair). Good j (levels_left p) p) (sym s) (good_start j (both_accepted j ok));
        depth = λ e. let q : levels_left (pair_at at everywhere) ≡ stem_levels j = ap levels_left s in omega arith;
        waits = tt;
      })

module _ {j : Trees} {W : Type 0} {k : Walk j W} {all : W} {at : Nodes} {b : Boxes} {w : W} {stack : List Waiting} {len : ℕ} where
  -- an array of 25 never runs over
  pub room : Accepts j → {here : Bool} → Going k all at b w stack len here → len ≤ 24
  room ok g = omega (arith, g.deep, levels_fit j ok)

-- ---- the node pair at hand, as the code holds it

abbrev pub at_of : Option Nodes → Nodes
at_of None = record { left = nowhere; right = nowhere }
at_of (Some at) = at

abbrev pub here_of : Option Nodes → Bool
here_of None = false
here_of (Some at) = true

module _ {j : Trees} {W : Type 0} {k : Walk j W} {all : W} {b : Boxes} {w : W} {stack : List Waiting} {len : ℕ} where
  pub at_some : {next : Option Nodes} {at : Nodes} → next ≡ Some at → Going k all (at_of next) b w stack len (here_of next) → Going k all at b w stack len true
  at_some e g = subst (λ (n : Option Nodes). Going k all (at_of n) b w stack len (here_of n)) e g

  pub at_none : {next : Option Nodes} → next ≡ None → Going k all (at_of next) b w stack len (here_of next) → Going k all (at_of None) b w stack len false
  at_none e g = subst (λ (n : Option Nodes). Going k all (at_of n) b w stack len (here_of n)) e g

  pub at_any : {next : Option Nodes} → next ≡ None → Going k all (at_of None) b w stack len false → Going k all (at_of next) b w stack len (here_of next)
  at_any e g = subst (λ (n : Option Nodes). Going k all (at_of n) b w stack len (here_of n)) (sym e) g

  -- where none is at hand, it does not matter which it was
  pub none_left : {at : Nodes} → Going k all at b w stack len false → Going k all (at_of None) b w stack len false
  none_left g = record {
    owes = g.owes;
    size = g.size;
    sized = g.sized;
    deep = g.deep;
    good = λ q. absurd (let z : ◌≡◌ {A = ℕ} 0 1 = cc in omega arith);
    depth = λ q. absurd (let z : ◌≡◌ {A = ℕ} 0 1 = cc in omega arith);
    waits = g.waits;
  }

module _ {j : Trees} {W : Type 0} {k : Walk j W} {all : W} {at : Nodes} {b : Boxes} {w : W} {stack : List Waiting} {len : ℕ} {here : Bool} where
  -- the same stack, by another name
  pub restacked : {s : List Waiting} {n : ℕ} → s ≡ stack → n ≡ len → Going k all at b w stack len here → Going k all at b w s n here
  restacked e f g = subst₂ (λ (s : List Waiting) (n : ℕ). Going k all at b w s n here) (sym e) (sym f) g
