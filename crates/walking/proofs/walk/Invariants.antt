-- `walk` meets its contract: the loop's invariant is `Going`, with both trees accepted and the visitor ready as it was set. Assumes nothing.
use mathlib.Core.Path.{◌≡◌}
use mathlib.Core.Bool.{Bool, true, false}
use Prim.Native.Nat.{ℕ, ◌+◌, ◌*◌}
use Rattle.written.specs.Boxes.{Trees}
use Rattle.written.specs.NodePairs.{root_pair}
use Rattle.written.specs.Answers.{Accepts}
use Rattle.metric.specs.Flat.{boxes_of}
use Rattle.cursor.specs.Lent.{lent_trees}
use Rattle.steps.proofs.Going.{Going, at_of, here_of}
use Rattle.walking.proofs.walk.Given as goal

-- a turn that visits nothing takes an entry, or begins a visit
abbrev pub idle : Bool → ℕ
idle true = 0
idle false = 1

abbrev pub invariant-loop-next : goal.invariant-loop-next
invariant-loop-next g l =
    let v = g.V.Visitor in
    let j : Trees = lent_trees l.trees in
    let s = v.setting l.initial.visitor in
    let all = (v.walk s j).walks (root_pair j) (v.done l.initial.visitor) in
    Accepts j
    × v.ready l.visitor j
    × (v.setting l.visitor ≡ s)
    × v.whole s j all
    × Going (v.walk s j) all (at_of l.next) (boxes_of l.boxes.min l.boxes.max) (v.done l.visitor) l.stack.entries l.stack.len (here_of l.next)

abbrev pub decreases-loop-next : goal.decreases-loop-next
decreases-loop-next g l =
    3 * g.V.Visitor.left l.visitor (lent_trees l.trees) + l.stack.len + idle (here_of l.next)
