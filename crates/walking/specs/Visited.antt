-- What a visit comes to, for any walk. Assumes nothing.
use Rattle.std.specs.Prelude.{◌≡◌, ℕ, ◌≤◌, Option, Some, None}
use Rattle.written.specs.Boxes.{Trees}
use Rattle.written.specs.NodePairs.{NodePair}
use Rattle.cursor.specs.declared.lent.Side.{Side as HeldSide}
use Rattle.steps.proofs.Pending.{Walk}
use Rattle.steps.proofs.Visiting.{SplitsOn}

module _ {j : Trees} {W : Type 0} (k : Walk j W) where
  -- a visit that ends has done all that is done from its node pair on; one that splits has examined it
  abbrev pub Visited : NodePair → (w w' : W) → Option HeldSide → Type 0
  Visited s w w' None = w' ≡ k.walks s w
  Visited s w w' (Some side) = SplitsOn j s (k.next w s) side × (w' ≡ k.examined w)

  -- a number that falls from no node pair on is not above what it comes to at last
  abbrev pub NeverAbove : (w all : W) → Type 0
  NeverAbove w all = (f : W → ℕ) → ((s : NodePair) (y : W) → f y ≤ f (k.walks s y)) → f w ≤ f all
