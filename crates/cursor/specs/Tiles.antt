-- What a part of a lent list reads. Assumes nothing.
use Rattle.std.specs.Prelude.{◌≡◌, List, ℕ, ◌+◌, ◌<◌, take, drop, get_or}
use Rattle.std.proofs.Common.{◌∙◌, get_or-take, get_or-drop}

-- place i of the n from `from` on is place from + i of the whole
pub tile-read {ℓ} : {A : Type ℓ} (x : A) (l : List A) (from n i : ℕ) → i < n → get_or (take n (drop from l)) i x ≡ get_or l (from + i) x
tile-read x l from n i h = get_or-take n (drop from l) i x h ∙ get_or-drop from l i x
