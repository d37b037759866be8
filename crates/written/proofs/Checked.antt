-- The computed check against the rules as sentences: each test means its rule, the number is that of the first rule broken, and no other is. Assumes nothing.
use Rattle.std.specs.Prelude.{◌≡◌, ◌↔◌, Bool, true, false, ◌&&◌, cond, [], ◌∷◌, ℕ, suc, ◌-◌, ◌*◌, ◌≤◌, ◌<◌, length, get_or, leb, eqb}
use Rattle.std.proofs.Math.Path.{refl}
use Rattle.std.proofs.Common.{sym, ap, ◌∙◌, subst, arith}
use Rattle.std.proofs.Math.Decide.{dec_lt}
use Rattle.std.specs.Float.{nan}
use Rattle.std.specs.Float.Ieee.Scale.{finite}
use Rattle.written.specs.LentTree.{Tree, leaves, places, start, stem_count}
use Rattle.written.specs.Check.{every, leaf_ok, pivot_ok, left_ok, right_ok, top_ok, Rule, rule₁, rule₂, rule₃, rule₄, rule₅, rule₆, rule₇, number_of, keeps, refused_at, refusal}
use Rattle.written.specs.Rules.{StartsKept, Kept, FirstBroken, none_broken, first_broken}
use Rattle.written.proofs.Laws.Tests.{gave, T_true, not_both, both, three, at_most, equal}
use Rattle.written.proofs.Laws.Check.{every_below, every_node, stems_are, pivot_ok_lem, order_ok_lem}

module _ (K : ℕ) (t : Tree) where
  -- ---- each test means its rule

  starts_mean : (keeps K t rule₄ ≡ true) ↔ StartsKept t
  starts_mean = (there, back)
    where
      first : Bool
      first = eqb (start t 0) 0

      last : Bool
      last = eqb (start t (leaves t)) (places t)

      there : (first && every (leaf_ok K t) 0 (leaves t) && last) ≡ true → StartsKept t
      there e =
          let h = (three first (every (leaf_ok K t) 0 (leaves t)) last).0 e in
          let leaf : (i : ℕ) → i < leaves t → (leb (start t i) (start t (suc i)) ≡ true) × (leb (start t (suc i) - start t i) 1024 ≡ true) =
          λ i k. (both (leb (start t i) (start t (suc i))) (leb (start t (suc i) - start t i) 1024)).0 ((every_below (leaf_ok K t) (leaves t)).0 h.1 i k) in
          record {
            first_zero = (equal (start t 0) 0).0 h.0;
            none_falls = λ i k. (at_most (start t i) (start t (suc i))).0 (leaf i k).0;
            none_large = λ i k. (at_most (start t (suc i) - start t i) 1024).0 (leaf i k).1;
            last_n = (equal (start t (leaves t)) (places t)).0 h.2;
          }

      back : StartsKept t → (first && every (leaf_ok K t) 0 (leaves t) && last) ≡ true
      back s =
          (three first (every (leaf_ok K t) 0 (leaves t)) last).1 (
            (equal (start t 0) 0).1 s.first_zero,
            (every_below (leaf_ok K t) (leaves t)).1
                (λ i k. (both (leb (start t i) (start t (suc i))) (leb (start t (suc i) - start t i) 1024)).1
                ((at_most (start t i) (start t (suc i))).1 (s.none_falls i k), (at_most (start t (suc i) - start t i) 1024).1 (s.none_large i k))),
            (equal (start t (leaves t)) (places t)).1 s.last_n,
          )

  pub rule_means : (r : Rule) → (keeps K t r ≡ true) ↔ Kept K t r
  rule_means rule₁ =
      let b = both (leb 1 K) (leb K 4) in
      (λ e. ((at_most 1 K).0 (b.0 e).0, (at_most K 4).0 (b.0 e).1), λ h. b.1 ((at_most 1 K).1 h.0, (at_most K 4).1 h.1))
  rule_means rule₂ =
      let n = length t.starts in
      let b = three (leb 1 n) (leb n 4097) (leb (places t) 65536) in (
        λ e. ((at_most 1 n).0 (b.0 e).0, (at_most n 4097).0 (b.0 e).1, (at_most (places t) 65536).0 (b.0 e).2),
        λ h. b.1 ((at_most 1 n).1 h.0, (at_most n 4097).1 h.1, (at_most (places t) 65536).1 h.2),
      )
  rule_means rule₃ =
      let m = stems_are (leaves t) (length t.stems) in
      let n = equal (length t.coords) (K * places t) in
      let b = both (eqb (length t.stems) (stem_count (leaves t))) (eqb (length t.coords) (K * places t)) in
      (λ e. let s = m.0 (b.0 e).0 in (s.0, s.1, n.0 (b.0 e).1), λ h. b.1 (m.1 (h.0, h.1), n.1 h.2))
  rule_means rule₄ = starts_mean
  rule_means rule₅ =
      let e = every_below (λ i. finite (get_or t.coords i nan)) (length t.coords) in
      (λ k i h. gave (e.0 k i h), λ k. e.1 (λ i h. T_true (finite (get_or t.coords i nan)) (k i h)))
  rule_means rule₆ =
      let e = every_node (pivot_ok K t) t in
      (λ k c n h. (pivot_ok_lem K t c).0 (e.0 k c n h), λ k. e.1 (λ c n h. (pivot_ok_lem K t c).1 (k c n h)))
  rule_means rule₇ =
      let e = every_node (λ c. left_ok K t c && right_ok K t c && top_ok K t c) t in
      (λ k c n h. (order_ok_lem K t c).0 (e.0 k c n h), λ k. e.1 (λ c n h. (order_ok_lem K t c).1 (k c n h)))

  -- ---- the number is that of the first rule broken

  abbrev Before : ℕ → Type 0
  Before n = (q : Rule) → number_of q < n → Kept K t q

  -- a rule is known by its number
  rule_of : ℕ → Rule
  rule_of n = get_or (rule₁ ∷ rule₂ ∷ rule₃ ∷ rule₄ ∷ rule₅ ∷ rule₆ ∷ rule₇ ∷ []) (n - 1) rule₁

  rule_of_number : (r : Rule) → rule_of (number_of r) ≡ r
  unfolding rule_of
  rule_of_number rule₁ = refl
  rule_of_number rule₂ = refl
  rule_of_number rule₃ = refl
  rule_of_number rule₄ = refl
  rule_of_number rule₅ = refl
  rule_of_number rule₆ = refl
  rule_of_number rule₇ = refl

  one_to_seven : (r : Rule) → (1 ≤ number_of r) × (number_of r ≤ 7)
  one_to_seven rule₁ = (omega arith, omega arith)
  one_to_seven rule₂ = (omega arith, omega arith)
  one_to_seven rule₃ = (omega arith, omega arith)
  one_to_seven rule₄ = (omega arith, omega arith)
  one_to_seven rule₅ = (omega arith, omega arith)
  one_to_seven rule₆ = (omega arith, omega arith)
  one_to_seven rule₇ = (omega arith, omega arith)

  none_before : Before 1
  none_before q h = absurd (omega (arith, (one_to_seven q).0))

  and_this : (r : Rule) → Before (number_of r) → Kept K t r → Before (suc (number_of r))
  and_this r b k q h = go (dec_lt (number_of q) (number_of r))
    where
      go : Dec (number_of q < number_of r) → Kept K t q
      go (yes l) = b q l
      go (no n) =
          let e : number_of r ≡ number_of q = omega arith in
          subst (Kept K t) (sym (rule_of_number r) ∙ ap rule_of e ∙ rule_of_number q) k

  next : (r : Rule) (others : ℕ) → Before (number_of r) → (Before (suc (number_of r)) → FirstBroken K t others) → FirstBroken K t (refused_at K t r others)
  next r others b f = go (keeps K t r) refl
    where
      go : (x : Bool) → keeps K t r ≡ x → FirstBroken K t (cond x others (number_of r))
      go true e = f (and_this r b ((rule_means r).0 e))
      go false e = first_broken r b (λ k. not_both ((rule_means r).1 k) e)

  pub refusal_is_first : FirstBroken K t (refusal K t)
  unfolding refusal
  refusal_is_first =
      next rule₁ _ none_before (λ b. next rule₂ _ b (λ b. next rule₃ _ b (λ b. next rule₄ _ b (λ b. next rule₅ _ b (λ b. next rule₆ _ b (λ b. next rule₇ 0 b (λ b. none_broken (λ q. b q (omega (arith, (one_to_seven q).1))))))))))

  pub first_is_one : {m n : ℕ} → FirstBroken K t m → FirstBroken K t n → m ≡ n
  first_is_one (none_broken k) (none_broken l) = refl
  first_is_one (none_broken k) (first_broken r b x) = absurd (x (k r))
  first_is_one (first_broken r b x) (none_broken k) = absurd (x (k r))
  first_is_one (first_broken r b x) (first_broken q c y) = go (dec_lt (number_of r) (number_of q)) (dec_lt (number_of q) (number_of r))
    where
      go : Dec (number_of r < number_of q) → Dec (number_of q < number_of r) → number_of r ≡ number_of q
      go (yes l) d = absurd (x (c r l))
      go (no l) (yes m) = absurd (y (b q m))
      go (no l) (no m) = omega arith

  -- so a tree is accepted exactly when it keeps every rule
  pub accepted_means : (refusal K t ≡ 0) ↔ ((r : Rule) → Kept K t r)
  accepted_means = (λ e. zero_broken refusal_is_first e, λ k. first_is_one refusal_is_first (none_broken k))
    where
      zero_broken : {n : ℕ} → FirstBroken K t n → n ≡ 0 → (r : Rule) → Kept K t r
      zero_broken (none_broken k) e = k
      zero_broken (first_broken r b x) e = absurd (omega (arith, (one_to_seven r).0))
