-- Any two results that an exported call's promise permits are equal, for every input: the number, the six and what each room holds. Assumes nothing.
use Rattle.std.specs.Prelude.{◌≡◌, Float}
use Rattle.std.proofs.Common.{sym, ap₂, ◌∙◌}
use Rattle.written.specs.Boxes.{Trees, Edge}
use Rattle.written.specs.Answers.{Answer, PairRooms, pairs_call, NearRooms, nearest_call}
use Rattle.written.specs.Spacing.{radius_of}
use Rattle.oulavisok.specs.Numbers.{Told, ToldRooms, InNumbers, PairsNumbers, CountsNumbers, NearestNumbers}

in_numbers_unique : {Rooms : Type 0} (call : Answer × Rooms) {r s : ToldRooms Rooms} → InNumbers call r → InNumbers call s → r ≡ s
in_numbers_unique {Rooms} call p q = ap₂ (λ (t : Told) (x : Rooms). record { told = t; rooms = x }) (p.0 ∙ sym q.0) (p.1 ∙ sym q.1)

pub pairs_unique : (j : Trees) (edge : Edge) (radius : Float) (b : PairRooms) {r s : ToldRooms PairRooms} → PairsNumbers j edge radius b r → PairsNumbers j edge radius b s → r ≡ s
pairs_unique j edge radius b p q = in_numbers_unique (pairs_call j edge radius b) p q

pub counts_unique : (j : Trees) (edge : Edge) (radius : Float) {r s : Told} → CountsNumbers j edge radius r → CountsNumbers j edge radius s → r ≡ s
counts_unique j edge radius p q = p ∙ sym q

pub nearest_unique : (j : Trees) (b : NearRooms) {r s : ToldRooms NearRooms} → NearestNumbers j b r → NearestNumbers j b s → r ≡ s
nearest_unique j b p q = in_numbers_unique (nearest_call j b) p q

pub radius_unique : (length : Float) {r s : Float} → r ≡ radius_of length → s ≡ radius_of length → r ≡ s
radius_unique length p q = p ∙ sym q
