-- What the code chooses to do at a node pair is what the written walk does there. Assumes nothing.
use mathlib.Core.Path.{◌≡◌, refl, ap, ◌∙◌}
use mathlib.Core.Bool.{Bool, true, false, ◌&&◌}
use Prim.Native.Nat.{ℕ}
use native.Mathlib.Omega.{arith}
use lib.Ieee.{Float}
use Rattle.written.specs.LentTree.{is_leaf}
use Rattle.written.specs.Boxes.{Trees, Edge}
use Rattle.written.specs.Visits.{measured, ruled, whole, ends}
use Rattle.written.specs.NodePairs.{NodePair, splits_right, picked, split, visit}
use Rattle.written.specs.RadiusWalk.{ruled_out, taken_whole, step}
use Rattle.cursor.specs.Held.{side_of}
use Rattle.steps.proofs.Visiting.{SplitsOn, side_picked}
use Rattle.radiusvisit.specs.declared.moves.Fate.{Fate as Held}
use Rattle.radiusvisit.specs.declared.moves.Fate.TheVariants.{Measured, RuledOut, Whole}
use Rattle.steps.specs.declared.splitting.Move.TheVariants.{End, Split}
use Rattle.steps.specs.Standing.{side_by}
use Rattle.cursor.specs.declared.lent.Side.{Side as HeldSide}
use Rattle.radiusvisit.specs.Moves.{fate_of, move_by, move_of}
use Rattle.radiusvisit.specs.Ending.{MayEnd}

apart_ruled : ruled ≡ whole → ⊥
apart_ruled e = let z : ◌≡◌ {A = ℕ} 0 1 = cc in omega arith

apart_measured : measured ≡ whole → ⊥
apart_measured e = let z : ◌≡◌ {A = ℕ} 0 1 = cc in omega arith

module _ (j : Trees) (edge : Edge) (radius : Float) (counting : Bool) (s : NodePair) where
  abbrev at_leaves : Bool
  at_leaves = is_leaf s.left && is_leaf s.right

  -- the visit ends with this fate, and only a count takes node pairs whole
  pub record EndsWith (f : Held) : Type 0 where
    pub ends_so : step j edge radius counting s ≡ ends (fate_of f)
    pub allowed : MayEnd counting f

  ends_visit : {f : Held} → visit j (ruled_out j edge radius s) (taken_whole j edge radius counting s) s ≡ ends (fate_of f) → MayEnd counting f → EndsWith f
  unfolding step
  ends_visit e m = record { ends_so = e; allowed = m }

  whole_counts : (c p : Bool) → (c && p) ≡ true → c ≡ true
  whole_counts true p e = refl
  whole_counts false p e = e

  pub chosen_end : (f : Held) → End f ≡ move_of j edge radius counting s → EndsWith f
  chosen_end f e = go (ruled_out j edge radius s) refl (taken_whole j edge radius counting s) refl at_leaves refl e
    where
      go : (out : Bool) → ruled_out j edge radius s ≡ out → (all : Bool) → taken_whole j edge radius counting s ≡ all → (leaf : Bool) → at_leaves ≡ leaf → End f ≡ move_by out all leaf (splits_right s) → EndsWith f
      go true p all q leaf l e =
          let k : RuledOut ≡ f = cc in
          ends_visit (rw p (ap (λ (x : Held). ends (fate_of x)) k)) (λ h. let z : ◌≡◌ ruled whole = ap fate_of k ∙ h in absurd (apart_ruled z))
      go false p true q leaf l e =
          let k : Whole ≡ f = cc in
          ends_visit (rw (p, q) (ap (λ (x : Held). ends (fate_of x)) k)) (λ h. whole_counts counting _ q)
      go false p false q true l e =
          let k : Measured ≡ f = cc in
          ends_visit (rw (p, q, l) (ap (λ (x : Held). ends (fate_of x)) k)) (λ h. let z : ◌≡◌ measured whole = ap fate_of k ∙ h in absurd (apart_measured z))
      go false p false q false l e = let z : ◌≡◌ {A = ℕ} 0 1 = cc in absurd (omega arith)

  -- the visit splits that side, which has a level left
  abbrev Splits : HeldSide → Type 0
  Splits = SplitsOn j s (step j edge radius counting s)

  splits_visit : {side : HeldSide} → visit j (ruled_out j edge radius s) (taken_whole j edge radius counting s) s ≡ split j (picked s) s → side_of side ≡ picked s → at_leaves ≡ false → Splits side
  unfolding step
  splits_visit e p l = record { splits_so = e; side_is = p; no_leaves = l }

  pub chosen_split : (side : HeldSide) → Split side ≡ move_of j edge radius counting s → Splits side
  chosen_split side e = go (ruled_out j edge radius s) refl (taken_whole j edge radius counting s) refl at_leaves refl e
    where
      go : (out : Bool) → ruled_out j edge radius s ≡ out → (all : Bool) → taken_whole j edge radius counting s ≡ all → (leaf : Bool) → at_leaves ≡ leaf → Split side ≡ move_by out all leaf (splits_right s) → Splits side
      go true p all q leaf l e = let z : ◌≡◌ {A = ℕ} 0 1 = cc in absurd (omega arith)
      go false p true q leaf l e = let z : ◌≡◌ {A = ℕ} 0 1 = cc in absurd (omega arith)
      go false p false q true l e = let z : ◌≡◌ {A = ℕ} 0 1 = cc in absurd (omega arith)
      go false p false q false l e =
          let k : side ≡ side_by (splits_right s) = cc in
          splits_visit (rw (p, q, l) refl) (ap side_of k ∙ side_picked (splits_right s)) l
