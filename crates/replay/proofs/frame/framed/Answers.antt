-- Each cut leaves two parts that make up what was cut. Assumes nothing.
use Rattle.std.proofs.Common.{◌≡◌, ℕ, List, ◌++◌, arith, take-append-drop}
use Rattle.std.specs.List.{IsSplitAt}
use Rattle.replay.proofs.frame.framed.Goals as goal

whole : (xs : List ℕ) (n : ℕ) (a b : List ℕ) → IsSplitAt xs n a b → xs ≡ a ++ b
whole xs n a b h = let e = take-append-drop n xs in cc

pub returns : goal.returns
returns c =
    let head = c.in_ok-head.ensures.cases in
    let job = c.in_ok-job.ensures.cases in
    let answer = c.in_ok-answer.ensures.cases in
    let pairs = c.in_ok-pairs.ensures.cases in
    let text = c.in_ok-text.ensures.cases in
    record {
      parts = cc (head.1, whole _ _ _ _ head, whole _ _ _ _ job, whole _ _ _ _ answer, whole _ _ _ _ pairs, whole _ _ _ _ text);
      answer = answer.3;
      head = head.0;
      taken = omega (arith, head.4, job.4, answer.4, pairs.4, text.4);
    }
