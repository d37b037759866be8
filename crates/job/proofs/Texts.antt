-- An answer's text by what it holds: what was counted has lines, a refusal has none. Assumes nothing.
use mathlib.Core.Path.{◌≡◌, refl}
use mathlib.Core.List.{List}
use Prim.Native.Nat.{ℕ, zero, suc}
use lib.Ieee.{Float}
use Rattle.std.specs.Prelude.{Err}
use Rattle.written.specs.LentTree.{Tree}
use Rattle.written.specs.Check.{number_of}
use Rattle.written.specs.RadiusWalk.{Found}
pub use Rattle.printing.specs.Putting.{puts_as}
use Rattle.printing.specs.Text.{refused_line}
use Rattle.tree.specs.declared.Rule.TheVariants.{Axes, Sizes, Lengths, Starts, Coords, Pivots, Order}
use Rattle.tree.specs.Told.{rule_of}
use Rattle.join.specs.declared.answer.Refusal.{Refusal}
use Rattle.join.specs.declared.answer.Refusal.TheVariants.{Tree as OfTree, Rooms, Room}
use Rattle.join.specs.Answering.{answer_of, refusal_number, refusal_side}
use Rattle.job.specs.Printed.{answer_text, join_text}
use Rattle.job.specs.Shown.{lines_by, lines_of}

nothing_found : (n : ℕ) → 0 ≡ lines_by n 0
nothing_found zero = refl
nothing_found (suc n) = refl

pub no_lines : (r : Refusal) → 0 ≡ lines_of (Err r)
no_lines (OfTree side rule) = nothing_found (number_of (rule_of rule))
no_lines Rooms = refl
no_lines (Room t) = refl

pub text_refused : (r : Refusal) (kind : List ℕ) (l : List Found) → refused_line (refusal_number r) (refusal_side r) ≡ answer_text kind (answer_of (Err r)) l
text_refused (OfTree side Axes) kind l = refl
text_refused (OfTree side Sizes) kind l = refl
text_refused (OfTree side Lengths) kind l = refl
text_refused (OfTree side Starts) kind l = refl
text_refused (OfTree side Coords) kind l = refl
text_refused (OfTree side Pivots) kind l = refl
text_refused (OfTree side Order) kind l = refl
text_refused Rooms kind l = refl
text_refused (Room t) kind l = refl

-- the same trees, asked for the same
pub joins_alike : {k k' m m' : ℕ} {a a' b b' : Tree} {r r' : Float} → k ≡ k' → a ≡ a' → b ≡ b' → m ≡ m' → r ≡ r'
    → join_text (record { axes = k; left = a; right = b }) m r ≡ join_text (record { axes = k'; left = a'; right = b' }) m' r'
joins_alike e f g h i = rw (e, f, g, h, i) refl
