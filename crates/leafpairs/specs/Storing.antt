-- Pairs gathered in three buffers: those that fit are stored, all are counted. Assumes nothing.
use Rattle.std.specs.Prelude.{◌≡◌, List}
use Rattle.std.proofs.Math.Path.{refl}
use Rattle.std.proofs.Common.{ap, sym, ◌∙◌, arith, length-append}
use Rattle.written.specs.RadiusWalk.{Found}
use Rattle.leaf.specs.Kept.{Countable}
use Rattle.leaf.specs.Gathering.{GatherLaws}
use Rattle.rooms.specs.Rooms.{Filling, filling, puts, SameRooms}
use Rattle.rooms.specs.Stored.{puts_append, puts_found}
use Rattle.leafpairs.specs.declared.Pairs.{Pairs}

-- how many, and the three buffers
abbrev pub filled : Pairs → Filling
filled a = filling a.found a.lout.now a.rout.now a.dout.now

abbrev pub CanStore : Pairs → List Found → Type 0
CanStore a l = SameRooms a.lout.now a.rout.now a.dout.now × Countable a.found l

-- the same three buffers, with the pairs put in
pub record Stored (a : Pairs) (l : List Found) (b : Pairs) : Type 0 where
  pub lefts : b.lout.ghost_name ≡ a.lout.ghost_name
  pub rights : b.rout.ghost_name ≡ a.rout.ghost_name
  pub distances : b.dout.ghost_name ≡ a.dout.ghost_name
  pub same : SameRooms a.lout.now a.rout.now a.dout.now → SameRooms b.lout.now b.rout.now b.dout.now
  pub put : filled b ≡ puts (filled a) l

pub storing_laws : GatherLaws CanStore Stored
unfolding puts
storing_laws = record {
  none = λ a. record { lefts = refl; rights = refl; distances = refl; same = λ h. h; put = refl };
  both = λ a b c l m h k. record {
    lefts = k.lefts ∙ h.lefts;
    rights = k.rights ∙ h.rights;
    distances = k.distances ∙ h.distances;
    same = λ s. k.same (h.same s);
    put = k.put ∙ ap (λ (s : Filling). puts s m) h.put ∙ sym (puts_append (filled a) l m);
  };
  first = λ a l m h. (h.0, omega (arith, h.1, length-append l m));
  then = λ a b l m h k. (k.same h.0, omega (arith, h.1, length-append l m, ap (λ (s : Filling). s.found) k.put, puts_found (filled a) l));
}
