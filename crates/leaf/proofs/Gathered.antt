-- A list of pairs gathered part by part, as the loops over points and tiles do it: what is left to gather. Assumes nothing.
use mathlib.Core.Path.{◌≡◌, subst, sym}
use mathlib.Core.List.{List, [], ◌++◌}
use Rattle.written.specs.RadiusWalk.{Found}
use Rattle.leaf.specs.Gathering.{GatherLaws}

-- Of the list `all`, to be gathered in a, there is `rest` to gather in b.
pub record Left {S : Type 0} (takes : S → List Found → Type 0) (after : S → List Found → S → Type 0) (a : S) (all : List Found) (b : S) (rest : List Found) : Type 0 where
  pub room : takes b rest
  pub ends : (c : S) → after b rest c → after a all c

module _ {S : Type 0} {takes : S → List Found → Type 0} {after : S → List Found → S → Type 0} where
  pub all_left : {a : S} {all : List Found} → takes a all → Left takes after a all a all
  all_left room = record { room = room; ends = λ c h. h }

  module _ (laws : GatherLaws takes after) {a : S} {all : List Found} {b : S} {l : List Found} (left : Left takes after a all b l) where
    pub none_left : l ≡ [] → after a all b
    none_left e = left.ends b (subst (λ (x : List Found). after b x b) (sym e) (laws.none b))

    module _ (first rest : List Found) (e : l ≡ first ++ rest) where
      -- there is room for the next part
      pub next_room : takes b first
      next_room = laws.first b first rest (subst (takes b) e left.room)

      -- and once it is gathered, the parts after it are left
      pub next_left : {b' : S} → after b first b' → Left takes after a all b' rest
      next_left {b'} step = record {
        room = laws.then b b' first rest (subst (takes b) e left.room) step;
        ends = λ c h. left.ends c (subst (λ (x : List Found). after b x c) (sym e) (laws.both b b' c first rest step h));
      }
