-- Node pairs that hold pairs of places. Where each visit that goes on goes on with all its pairs of places, every pair lies under exactly one visit that ends. Assumes nothing.
use Rattle.std.specs.Prelude.{◌≡◌, refl, ◌⊎◌, ℕ, zero, suc, ◌+◌, ◌*◌, ◌<◌, length}
use Rattle.std.proofs.Common.{◌∙◌, inl, inr, zero-mul, mul-zero}
use mathlib.Core.List.Permᴰ
use mathlib.Core.List.{List, [], ◌++◌, Permᴰ}
use Rattle.std.proofs.Math.Decide.{dec_lt}
use native.Mathlib.Omega.{arith}
use Rattle.written.specs.Places.{Part, In, ind, cross}
use Rattle.written.specs.Visits.{Fate, measured, ruled, whole, Run, stop, one, two, is, sum, total, gather, Ends}
use Rattle.written.proofs.Laws.Lists.{perm_of_eq, perm_length, perm_append}
use Rattle.written.proofs.Laws.Places.{Halves, in_first, in_then, in_halves, ind_pos, ind_halves, cross_left, cross_right, cross_nil, cross_full}
use Rattle.written.proofs.Laws.Visits.{at, gather_perm, sum_gather, ends_map}

module _ {S : Type 0} (left right : S → Part) where
  -- the halves t and u of the node pair s: one side is cut in two, the other side stays
  pub data Cut (s t u : S) : Type 0 where
    cut_left : Halves (left s) (left t) (left u) → right t ≡ right s → right u ≡ right s → Cut s t u
    cut_right : Halves (right s) (right t) (right u) → left t ≡ left s → left u ≡ left s → Cut s t u

  -- a visit that goes on goes on with all its pairs of places
  abbrev pub Tiled : Run S → Type 0
  Tiled (stop s k) = Unit {0}
  Tiled (one s r) = (left (at r) ≡ left s) × (right (at r) ≡ right s) × Tiled r
  Tiled (two s r t) = Cut s (at r) (at t) × Tiled r × Tiled t

  -- ---- where a pair of places goes

  pub cut_in : {s t u : S} → Cut s t u → (p q : ℕ) → In p (left s) → In q (right s) → (In p (left t) × In q (right t)) ⊎ (In p (left u) × In q (right u))
  cut_in {s} {t} {u} (cut_left h e₁ e₂) p q a b = go (in_halves h a)
    where
      go : In p (left t) ⊎ In p (left u) → (In p (left t) × In q (right t)) ⊎ (In p (left u) × In q (right u))
      go (inl x) = inl (x, rw e₁ b)
      go (inr x) = inr (x, rw e₂ b)
  cut_in {s} {t} {u} (cut_right h e₁ e₂) p q a b = go (in_halves h b)
    where
      go : In q (right t) ⊎ In q (right u) → (In p (left t) × In q (right t)) ⊎ (In p (left u) × In q (right u))
      go (inl x) = inl (rw e₁ a, x)
      go (inr x) = inr (rw e₂ a, x)

  pub cut_first_in : {s t u : S} → Cut s t u → {q : ℕ} → In q (right t) → In q (right s)
  cut_first_in (cut_left h e₁ e₂) x = rw (← e₁) x
  cut_first_in (cut_right h e₁ e₂) x = in_first h x

  pub cut_then_in : {s t u : S} → Cut s t u → {q : ℕ} → In q (right u) → In q (right s)
  cut_then_in (cut_left h e₁ e₂) x = rw (← e₂) x
  cut_then_in (cut_right h e₁ e₂) x = in_then h x

  -- ---- any number that a cut shares out: the three totals add up to the first visit's

  abbrev Shared : (S → ℕ) → Type 0
  Shared size = ((s t u : S) → Cut s t u → size t + size u ≡ size s) × ((s t : S) → left t ≡ left s → right t ≡ right s → size t ≡ size s)

  abbrev ThreeTotals : (S → ℕ) → Run S → ℕ
  ThreeTotals size r = total size measured r + total size ruled r + total size whole r

  totals : (size : S → ℕ) → Shared size → (r : Run S) → Tiled r → ThreeTotals size r ≡ size (at r)
  unfolding sum
  totals size c (stop s measured) h = omega arith
  totals size c (stop s ruled) h = omega arith
  totals size c (stop s whole) h = omega arith
  totals size c (one s r) h = totals size c r h.2 ∙ c.1 s (at r) h.0 h.1
  totals size c (two s r t) h = omega (arith, totals size c r h.1, totals size c t h.2, c.0 s (at r) (at t) h.0)

  -- how many pairs of places are under a node pair
  pub totals_area : (r : Run S) → Tiled r → ThreeTotals (λ s. (left s).size * (right s).size) r ≡ (left (at r)).size * (right (at r)).size
  totals_area = totals (λ s. (left s).size * (right s).size) (cut, λ s t e f. rw (e, f) refl)
    where
      cut : (s t u : S) → Cut s t u → (left t).size * (right t).size + (left u).size * (right u).size ≡ (left s).size * (right s).size
      cut s t u (cut_left h e₁ e₂) = rw (e₁, e₂, h.both) (omega arith)
      cut s t u (cut_right h e₁ e₂) = rw (e₁, e₂, h.both) (omega arith)

  -- 1 where the pair of places is under the node pair
  pub totals_once : (p q : ℕ) (r : Run S) → Tiled r → ThreeTotals (λ s. ind p (left s) * ind q (right s)) r ≡ ind p (left (at r)) * ind q (right (at r))
  totals_once p q = totals (λ s. ind p (left s) * ind q (right s)) (cut, λ s t e f. rw (e, f) refl)
    where
      cut : (s t u : S) → Cut s t u → ind p (left t) * ind q (right t) + ind p (left u) * ind q (right u) ≡ ind p (left s) * ind q (right s)
      cut s t u (cut_left h e₁ e₂) = rw (e₁, e₂, ind_halves p h) (omega arith)
      cut s t u (cut_right h e₁ e₂) = rw (e₁, e₂, ind_halves q h) (omega arith)

  -- ---- a visit that ends with the fate j and has the pair of places under it

  pub under_in : (p q : ℕ) (w v : Part) → 0 < ind p w * ind q v → In p w × In q v
  under_in p q w v h = (ind_pos (pos_l (ind p w) (ind q v) h), ind_pos (pos_r (ind p w) (ind q v) h))
    where
      pos_l : (a b : ℕ) → 0 < a * b → 0 < a
      pos_l zero b h = rw zero-mul at h
      pos_l (suc a) b h = omega arith

      pos_r : (a b : ℕ) → 0 < a * b → 0 < b
      pos_r a zero h = rw mul-zero at h
      pos_r a (suc b) h = omega arith

  pub ends_at : (P : S → Fate → Type 0) (j : Fate) (p q : ℕ) (r : Run S) → Ends P r → 0 < total (λ s. ind p (left s) * ind q (right s)) j r → (s : S) × P s j × In p (left s) × In q (right s)
  unfolding sum
  ends_at P j p q (stop s k) e h = go j k e h
    where
      found : {k : Fate} → P s k → 0 < ind p (left s) * ind q (right s) → (s : S) × P s k × In p (left s) × In q (right s)
      found e h = let i = under_in p q (left s) (right s) h in (s, e, i.0, i.1)

      go : (j k : Fate) → P s k → 0 < is j k * (ind p (left s) * ind q (right s)) → (s : S) × P s j × In p (left s) × In q (right s)
      go measured measured e h = found e (omega arith)
      go ruled ruled e h = found e (omega arith)
      go whole whole e h = found e (omega arith)
      go measured ruled e h = absurd (omega arith)
      go measured whole e h = absurd (omega arith)
      go ruled measured e h = absurd (omega arith)
      go ruled whole e h = absurd (omega arith)
      go whole measured e h = absurd (omega arith)
      go whole ruled e h = absurd (omega arith)
  ends_at P j p q (one s r) e h = ends_at P j p q r e h
  ends_at P j p q (two s r t) e h = go (dec_lt 0 (number r)) (ends_at P j p q r e.0) (ends_at P j p q t e.1)
    where
      number : Run S → ℕ
      number r = total (λ s. ind p (left s) * ind q (right s)) j r

      go : Dec (0 < number r) → (0 < number r → (s : S) × P s j × In p (left s) × In q (right s)) → (0 < number t → (s : S) × P s j × In p (left s) × In q (right s))
          → (s : S) × P s j × In p (left s) × In q (right s)
      go (yes l) f g = f l
      go (no n) f g = g (omega arith)

  -- ---- what is found, f being what is kept of a pair of places

  module _ {X : Type 0} (f : ℕ → ℕ → List X) where
    -- f keeps none of the pairs of a visit that is ruled out, and each pair of one that is taken whole
    abbrev pub Fair : S → Fate → Type 0
    Fair s measured = Unit {0}
    Fair s ruled = (p q : ℕ) → In p (left s) → In q (right s) → f p q ≡ []
    Fair s whole = (p q : ℕ) → In p (left s) → In q (right s) → length (f p q) ≡ 1

    -- the lists of all the pairs of places of a node pair
    abbrev lists : S → List X
    lists s = cross f (left s) (right s)

    cut_lists : {s t u : S} → Cut s t u → Permᴰ (lists t ++ lists u) (lists s)
    cut_lists {s} {t} {u} (cut_left h e₁ e₂) = rw (e₁, e₂) (perm_of_eq (cross_left f (left s) (left t) (left u) (right s) h))
    cut_lists {s} {t} {u} (cut_right h e₁ e₂) = rw (e₁, e₂) (cross_right f (left s) (right s) (right t) (right u) h)

    covers : (r : Run S) → Tiled r → Permᴰ (gather (λ s k. lists s) r) (lists (at r))
    unfolding gather
    covers (stop s k) h = Permᴰ.refl _
    covers (one s r) h = rw (← h.0, ← h.1) (covers r h.2)
    covers (two s r t) h = Permᴰ.trans (perm_append (covers r h.1) (covers t h.2)) (cut_lists h.0)

    -- what the visits find is a rearrangement, where each finds a rearrangement of its own pairs
    pub finds : (g : S → Fate → List X) → ((s : S) (k : Fate) → Fair s k → Permᴰ (g s k) (lists s)) → (r : Run S) → Tiled r → Ends Fair r → Permᴰ (gather g r) (lists (at r))
    finds g ok r h e = Permᴰ.trans (gather_perm g (λ s k. lists s) r (ends_map ok r e)) (covers r h)

    -- and what they count is its length, where each counts all its own
    pub counts : (n : S → Fate → ℕ) → ((s : S) (k : Fate) → Fair s k → n s k ≡ length (lists s)) → (r : Run S) → Tiled r → Ends Fair r → sum n r ≡ length (lists (at r))
    counts n ok r h e = sum_gather n (λ s k. lists s) r (ends_map ok r e) ∙ perm_length (covers r h)

    pub ruled_none : (s : S) → Fair s ruled → lists s ≡ []
    ruled_none s h = cross_nil f (left s) (right s) h

    pub whole_all : (s : S) → Fair s whole → length (lists s) ≡ (left s).size * (right s).size
    whole_all s h = cross_full f (left s) (right s) h
