-- What the code chooses to do at a node pair is what the written walk does there. Assumes nothing.
use mathlib.Core.Path.{◌≡◌, refl, ap, ◌∙◌}
use mathlib.Core.Bool.{Bool, true, false, ◌&&◌}
use mathlib.Core.List.{List}
use Prim.Native.Nat.{ℕ}
use native.Mathlib.Omega.{arith}
use Rattle.written.specs.LentTree.{is_leaf}
use Rattle.written.specs.Boxes.{Trees}
use Rattle.written.specs.Visits.{ends}
use Rattle.written.specs.NodePairs.{NodePair, splits_right, visit}
use Rattle.written.specs.Nearest.{Neighbour, near_ruled_out, near_step}
use Rattle.cursor.specs.Held.{side_of}
use Rattle.steps.proofs.Visiting.{SplitsOn, side_picked}
use Rattle.nearvisit.specs.declared.moves.Fate.{Fate as Held}
use Rattle.nearvisit.specs.declared.moves.Fate.TheVariants.{Measured, RuledOut}
use Rattle.steps.specs.declared.splitting.Move.TheVariants.{End, Split}
use Rattle.steps.specs.Standing.{side_by}
use Rattle.cursor.specs.declared.lent.Side.{Side as HeldSide}
use Rattle.nearvisit.specs.Moves.{fate_of, move_by}

module _ (j : Trees) (c : List Neighbour) (s : NodePair) where
  abbrev at_leaves : Bool
  at_leaves = is_leaf s.left && is_leaf s.right

  step_is : near_step j c s ≡ visit j (near_ruled_out j c s) false s
  unfolding near_step
  step_is = refl

  pub chosen_end : (f : Held) → End f ≡ move_by (near_ruled_out j c s) at_leaves (splits_right s) → near_step j c s ≡ ends (fate_of f)
  chosen_end f e = step_is ∙ go (near_ruled_out j c s) at_leaves refl e
    where
      go : (out leaf : Bool) → at_leaves ≡ leaf → End f ≡ move_by out leaf (splits_right s) → visit j out false s ≡ ends (fate_of f)
      go true leaf l e = let k : RuledOut ≡ f = cc in ap (λ (x : Held). ends (fate_of x)) k
      go false true l e = let k : Measured ≡ f = cc in rw l (ap (λ (x : Held). ends (fate_of x)) k)
      go false false l e = let z : ◌≡◌ {A = ℕ} 0 1 = cc in absurd (omega arith)

  pub chosen_split : (side : HeldSide) → Split side ≡ move_by (near_ruled_out j c s) at_leaves (splits_right s) → SplitsOn j s (near_step j c s) side
  chosen_split side e = go (near_ruled_out j c s) refl at_leaves refl e
    where
      go : (out : Bool) → near_ruled_out j c s ≡ out → (leaf : Bool) → at_leaves ≡ leaf → Split side ≡ move_by out leaf (splits_right s) → SplitsOn j s (near_step j c s) side
      go true p leaf l e = let z : ◌≡◌ {A = ℕ} 0 1 = cc in absurd (omega arith)
      go false p true l e = let z : ◌≡◌ {A = ℕ} 0 1 = cc in absurd (omega arith)
      go false p false l e =
          let k : side ≡ side_by (splits_right s) = cc in
          record { splits_so = step_is ∙ rw (p, l) refl; side_is = ap side_of k ∙ side_picked (splits_right s); no_leaves = l }
