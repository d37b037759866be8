-- One digit more than the logarithm, and one where there is none, which is where n is 0. Assumes nothing.
use Rattle.std.proofs.Common.{◌≡◌, ℕ, suc, ◌+◌, ◌-◌, ◌*◌, ◌^◌, ◌≤◌, ◌<◌, max, rules, arith, add-one, ap, subst, ◌∙◌}
use Rattle.std.proofs.Math.Nat.{pow-succ', pow-le-pow_right, one-le-pow}
use Rattle.std.specs.Prelude.{IfSome, IsSome, MatchOption}
use Rattle.std.specs.declared.option.Option.{Option}
use Rattle.std.specs.declared.option.Option.TheVariants.{None, Some}
use Rattle.printing.specs.Digits.{IsDigitCount}
use Rattle.printing.proofs.digits.count.Goals as goal

-- no logarithm: one digit
of_none : (b w n m : ℕ) → 1 < b → 0 < w → n < 1 → m ≡ max 1 w → IsDigitCount b w n m
of_none b w n m base padded none f =
    let one : 1 ≤ b ^ m = one-le-pow m b (omega arith) in (omega arith, omega arith, λ more. absurd (omega arith))

-- b ^ k ≤ n < b ^ (k + 1), so k + 1 digits hold n and k do not
of_log : (b w n k m : ℕ) → 1 < b → 0 < w → b ^ k ≤ n → n < b * b ^ k → m ≡ max (k + 1) w → IsDigitCount b w n m
of_log b w n k m base padded le gt f =
    let e : k + 1 ≡ suc k = add-one k in
    let p : b ^ (k + 1) ≡ b * b ^ k = ap (λ (j : ℕ). b ^ j) e ∙ pow-succ' b k in
    let q : b ^ (k + 1) ≤ b ^ m = pow-le-pow_right (omega arith) (omega arith) in
    let fewest = λ (more : w < m). let s : k ≡ m - 1 = omega arith in subst (λ (j : ℕ). b ^ j ≤ n) s le in
    (omega arith, omega arith, fewest)

-- o is the logarithm of n, r the digits without padding; Q is what is known of r where there is one
counted : (o : Option ℕ) (b w n r m : ℕ) (Q : ℕ → Type 0) → 1 < b → 0 < w → (0 < n × 2 ≤ b → IsSome o) → IfSome o (λ k. b ^ k ≤ n) → IfSome o (λ k. n < b * b ^ k) → MatchOption o (r ≡ 1) Q → ((k : ℕ) → Q k → r ≡ k + 1) → m ≡ max r w → IsDigitCount b w n m
counted None b w n r m Q base padded some le gt e q f = of_none b w n m base padded (grind (arith, some)) (f ∙ ap (λ (j : ℕ). max j w) e)
counted (Some k) b w n r m Q base padded some le gt e q f = of_log b w n k m base padded le gt (f ∙ ap (λ (j : ℕ). max j w) (q k e))

pub returns : goal.returns
returns c =
    let log = c.checked_ilog.ensures in
    counted c.checked_ilog.result _ _ _ _ _ _ c.requires.some c.requires.padded log.variant.1 log.power_le log.next_power_gt c.map_or.ensures (λ k q. search rules) c.max.ensures
