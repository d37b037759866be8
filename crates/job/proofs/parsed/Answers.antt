-- Each exit tells the first rule broken, and what is left at the end are the two trees. Assumes nothing.
use Rattle.std.proofs.Common.{◌≡◌, Option, Some, None, Result, Err, arith}
use Rattle.std.specs.Option.{ok_or}
use Rattle.std.proofs.lemmas.Result.{err_from_is_err_and}
use Rattle.reading.specs.Lays.{Lays}
use Rattle.reading.specs.Laws.{end_within}
use Rattle.job.proofs.Deciding.{sized, header_refused, length_refused, accepted, no_left, left_lays, no_right, right_lays, another_end, same_end}
use Rattle.job.proofs.parsed.Goals as goal
use Rattle.job.proofs.parsed.Goals.{In_ok-l, In_ok-r}

-- the error of `ok_or` is the one it was given
given : {X E : Type 0} (o : Option X) (r : Result X E) (e d : E) → r ≡ ok_or o e → r ≡ Err d → d ≡ e
given None r e d h g = cc
given (Some x) r e d h g = cc

-- the trees that are found
left : (c : goal.In_ok-l) → Lays c.byte_at-k.result c.args.s.now 16 c.in_ok-l.l
left c = rw c.in_ok-l.ensures.ok_part at c.lay.ensures

right : (c : goal.In_ok-r) → Lays c.byte_at-k.result c.args.s.now c.in_ok-l.l.end c.in_ok-r.r
right c = rw c.in_ok-r.ensures.ok_part at c.lay-2.ensures

pub returns-in_err-asked : goal.returns-in_err-asked
returns-in_err-asked c =
    let p = err_from_is_err_and c.from_residual.result c.from_residual.ensures.1 in
    rw (p.1, p.2) (header_refused _ _ c.in_err-asked.ensures)

pub byte_at-k-requires : goal.byte_at-k-requires
byte_at-k-requires c = omega (arith, sized _ c.in_ok-asked.ensures.0)

pub lay-requires : goal.lay-requires
lay-requires c =
    let z = sized _ c.in_ok-asked.ensures.0 in
    (z.0, z.1, c.byte_at-k.ensures.1)

pub returns-in_err-l : goal.returns-in_err-l
returns-in_err-l c =
    let p = err_from_is_err_and c.from_residual-in_err-l.result c.from_residual-in_err-l.ensures.1 in
    let none = rw c.in_err-l.ensures.ok_part at c.lay.ensures in
    rw (p.1, p.2, given _ _ _ _ c.ok_or.ensures.value c.in_err-l.was) (length_refused _ c.in_ok-asked.ensures.0 (no_left _ c.byte_at-k.ensures.0 none))

pub lay-requires-2 : goal.lay-requires-2
lay-requires-2 c =
    let z = sized _ c.in_ok-asked.ensures.0 in
    (end_within (left (goal.at.lay-requires-2 c).In_ok-l), z.1, c.byte_at-k.ensures.1)

pub returns-in_err-r : goal.returns-in_err-r
returns-in_err-r c =
    let p = err_from_is_err_and c.from_residual-in_err-r.result c.from_residual-in_err-r.ensures.1 in
    let none = rw c.in_err-r.ensures.ok_part at c.lay-2.ensures in
    rw (p.1, p.2, given _ _ _ _ c.ok_or-2.ensures.value c.in_err-r.was) (length_refused _ c.in_ok-asked.ensures.0 (no_right _ c.byte_at-k.ensures.0 (left (goal.at.returns-in_err-r c).In_ok-l) none))

pub returns-then-r-s : goal.returns-then-r-s
returns-then-r-s c =
    length_refused _ c.in_ok-asked.ensures.0 (another_end _ c.byte_at-k.ensures.0 (left (goal.at.returns-then-r-s c).In_ok-l) (right (goal.at.returns-then-r-s c).In_ok-r) (λ e. omega (arith, e, c.if-r-s.true)))

pub returns : goal.returns
returns c =
    let k = c.byte_at-k.ensures.0 in
    let z = sized _ c.in_ok-asked.ensures.0 in
    let l = left (goal.at.returns c).In_ok-l in
    let r = right (goal.at.returns c).In_ok-r in (
      accepted _ c.in_ok-asked.ensures.0 (same_end _ k l r c.if-r-s.false),
      c.in_ok-asked.ensures.1,
      record { header_held = z.0; limited = z.1; left_lies = left_lays _ k l; right_lies = right_lays _ k l r },
    )
