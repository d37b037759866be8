-- Any two results that a promise permits are equal, for every input: the answer and what each room holds. Assumes nothing.
use Rattle.std.specs.Prelude.{◌≡◌, refl, cond, ℕ, zero, suc, eqb, Ok, Err, Float}
use Rattle.std.proofs.Common.{sym, ap, ap₂, ◌∙◌}
use Rattle.written.specs.Boxes.{Trees, Edge}
use Rattle.written.specs.Answers.{Answer, PairRooms, pairs_call, NearRooms, nearest_call}
use Rattle.written.specs.Spacing.{radius_of}
use Rattle.cursor.specs.declared.lent.Side.{Side}
use Rattle.cursor.specs.declared.lent.Side.TheVariants.{Left, Right}
use Rattle.tree.specs.declared.Rule.{Rule}
use Rattle.tree.specs.declared.Rule.TheVariants.{Axes, Sizes, Lengths, Starts, Coords, Pivots, Order}
use Rattle.steps.specs.declared.tally.Tally.{Tally}
use Rattle.join.specs.declared.answer.Refusal.TheVariants.{Tree, Rooms, Room}
use Rattle.join.specs.Answering.{Held, answer_of}
use Rattle.join.specs.Told.{Result, PairsTold, CountsTold, NearestTold}

-- ---- an answer of the table is held in one way

rule_at : ℕ → Rule
rule_at n = cond (eqb n 1) Axes (cond (eqb n 2) Sizes (cond (eqb n 3) Lengths (cond (eqb n 4) Starts (cond (eqb n 5) Coords (cond (eqb n 6) Pivots Order)))))

side_at : ℕ → Side
side_at zero = Left
side_at (suc n) = Right

abbrev tally : Answer → Tally
tally a = record { found = a.found; visits = a.totals.visits; measured = a.totals.measured; ruled = a.totals.ruled_out; whole = a.totals.whole }

held : Answer → Held
held a = cond (eqb a.number 0) (Ok (tally a)) (cond (eqb a.number 8) (Err Rooms) (cond (eqb a.number 9) (Err (Room (tally a))) (Err (Tree (side_at a.side) (rule_at a.number)))))

held_back : (a : Held) → held (answer_of a) ≡ a
unfolding held rule_at side_at
held_back (Ok t) = refl
held_back (Err (Tree Left Axes)) = refl
held_back (Err (Tree Left Sizes)) = refl
held_back (Err (Tree Left Lengths)) = refl
held_back (Err (Tree Left Starts)) = refl
held_back (Err (Tree Left Coords)) = refl
held_back (Err (Tree Left Pivots)) = refl
held_back (Err (Tree Left Order)) = refl
held_back (Err (Tree Right Axes)) = refl
held_back (Err (Tree Right Sizes)) = refl
held_back (Err (Tree Right Lengths)) = refl
held_back (Err (Tree Right Starts)) = refl
held_back (Err (Tree Right Coords)) = refl
held_back (Err (Tree Right Pivots)) = refl
held_back (Err (Tree Right Order)) = refl
held_back (Err Rooms) = refl
held_back (Err (Room t)) = refl

-- two answers that the table doesn't tell apart are one
held_once : {a b : Held} → answer_of a ≡ answer_of b → a ≡ b
held_once {a} {b} e = sym (held_back a) ∙ ap held e ∙ held_back b

result_unique : {Rooms : Type 0} (call : Answer × Rooms) {r s : Result Rooms} → (answer_of r.answer, r.rooms) ≡ call → (answer_of s.answer, s.rooms) ≡ call → r ≡ s
result_unique {Rooms} call p q =
    let e = p ∙ sym q in
    ap₂ (λ (a : Held) (x : Rooms). record { answer = a; rooms = x }) (held_once (ap (λ (x : Answer × Rooms). x.0) e)) (ap (λ (x : Answer × Rooms). x.1) e)

pub pairs_unique : (j : Trees) (edge : Edge) (radius : Float) (b : PairRooms) {r s : Result PairRooms} → PairsTold j edge radius b r → PairsTold j edge radius b s → r ≡ s
pairs_unique j edge radius b p q = result_unique (pairs_call j edge radius b) p q

pub counts_unique : (j : Trees) (edge : Edge) (radius : Float) {r s : Held} → CountsTold j edge radius r → CountsTold j edge radius s → r ≡ s
counts_unique j edge radius p q = held_once (p ∙ sym q)

pub nearest_unique : (j : Trees) (b : NearRooms) {r s : Result NearRooms} → NearestTold j b r → NearestTold j b s → r ≡ s
nearest_unique j b p q = result_unique (nearest_call j b) p q

pub radius_unique : (length : Float) {r s : Float} → r ≡ radius_of length → s ≡ radius_of length → r ≡ s
radius_unique length p q = p ∙ sym q
