-- A walk that carries answers along, the far half first: from the law of one visit follow its tree of visits and the answers at its end. Assumes nothing.
use Rattle.std.specs.Prelude.{◌≡◌, ◌⊎◌}
use Rattle.std.proofs.Math.Path.{refl}
use Rattle.std.proofs.Common.{◌∙◌, inl, inr}
use Prim.Native.Nat.{ℕ, zero, suc, ◌≤◌}
use native.Mathlib.Omega.{arith}
use Rattle.written.specs.Places.{Part, In}
use Rattle.written.specs.Visits.{Fate, measured, ruled, whole, Step, ends, goes, forks, Seen, seen, after, carries, carry, Ends}
use Rattle.written.proofs.Laws.Visits.{at, height}
use Rattle.written.proofs.Laws.Covered.{Cut, cut_left, cut_right, cut_in, cut_first_in, cut_then_in, Tiled}
use Rattle.written.proofs.Laws.Walks.{Allows, Onward}

module _ {C S : Type 0} (step : C → S → Step S) (act : C → S → C) where
  pub at_carries : (d : ℕ) (c : C) (s : S) (x : Step S) → at (carries step act d c s x).0 ≡ seen c s
  unfolding carries
  at_carries zero c s (ends k) = refl
  at_carries zero c s (goes t) = refl
  at_carries zero c s (forks t u) = refl
  at_carries (suc d) c s (ends k) = refl
  at_carries (suc d) c s (goes t) = refl
  at_carries (suc d) c s (forks t u) = refl

  pub height_carries : (d : ℕ) (c : C) (s : S) (x : Step S) → height (carries step act d c s x).0 ≤ d
  unfolding carries height
  height_carries zero c s (ends k) = omega arith
  height_carries zero c s (goes t) = omega arith
  height_carries zero c s (forks t u) = omega arith
  height_carries (suc d) c s (ends k) = omega arith
  height_carries (suc d) c s (goes t) = omega (arith, height_carries d c t (step c t))
  height_carries (suc d) c s (forks t u) =
      let e = (carry step act d c u).1 in
      omega (arith, height_carries d c u (step c u), height_carries d e t (step e t))

  fates : (Q : Fate → Type 0) → Q measured → ((c : C) (s : S) → Allows Q (step c s)) → (d : ℕ) (c : C) (s : S) (x : Step S) → Allows Q x → Ends (λ s k. Q k) (carries step act d c s x).0
  unfolding carries
  fates Q m h zero c s (ends k) a = a
  fates Q m h zero c s (goes t) a = m
  fates Q m h zero c s (forks t u) a = m
  fates Q m h (suc d) c s (ends k) a = a
  fates Q m h (suc d) c s (goes t) a = fates Q m h d c t (step c t) (h c t)
  fates Q m h (suc d) c s (forks t u) a =
      let e = (carry step act d c u).1 in
      (fates Q m h d e t (step e t) (h e t), fates Q m h d c u (step c u) (h c u))

  pub carry_fates : (Q : Fate → Type 0) → Q measured → ((c : C) (s : S) → Allows Q (step c s)) → (d : ℕ) (c : C) (s : S) → Ends (λ s k. Q k) (carry step act d c s).0
  carry_fates Q m h d c s = fates Q m h d c s (step c s) (h c s)

  -- An answer is read at a place, and its distance compared by a preorder. `made p q` is the answer that measuring p against q offers.
  module _ (left right : S → Part) {Y D : Type 0} (get : C → ℕ → Y) (dist : Y → D) (made : ℕ → ℕ → Y) (◌⊑◌ : D → D → Type 0) where
    infixl 20 ◌⊑◌
    -- The answers c, walked over the node pair s, came to e: each is as near as any right place of s, is no farther than it was, and
    -- is what it was or is offered by a right place of s.
    pub record Settled (c e : C) (s : S) : Type 0 where
      pub low : (p q : ℕ) → In p (left s) → In q (right s) → dist (get e p) ⊑ dist (made p q)
      pub down : (p : ℕ) → dist (get e p) ⊑ dist (get c p)
      pub «from» : (p : ℕ) → (get e p ≡ get c p) ⊎ ((q : ℕ) × In q (right s) × (get e p ≡ made p q))

    -- where a visit is ruled out, the answer then held of each left place is no farther than any right place
    abbrev pub NoFarther : Seen C S → Fate → Type 0
    NoFarther v measured = Unit {0}
    NoFarther v ruled = (p q : ℕ) → In p (left v.pair) → In q (right v.pair) → dist (get v.held p) ⊑ dist (made p q)
    NoFarther v whole = Unit {0}

    module _ (Fine : C → Type 0) (Good : ℕ → S → Type 0) where
      -- what is to hold of one visit with d levels left
      abbrev pub CarryLaw : ℕ → C → S → Step S → Type 0
      CarryLaw d c s (ends k) = Fine (after step act k c s) × Settled c (after step act k c s) s
      CarryLaw d c s (goes t) = Onward left right Good d s (goes t)
      CarryLaw d c s (forks t u) = Onward left right Good d s (forks t u)

      -- what then holds of the walk
      pub record Carried (d : ℕ) (c : C) (s : S) : Type 0 where
        pub fine : Fine (carry step act d c s).1
        pub tiled : Tiled {S = Seen C S} (λ v. left v.pair) (λ v. right v.pair) (carry step act d c s).0
        pub held : Ends NoFarther (carry step act d c s).0
        pub settled : Settled c (carry step act d c s).1 s

      pub carry_onward : (d : ℕ) (c : C) (s : S) (x : Step S) → Onward left right Good d s x → CarryLaw d c s x
      carry_onward d c s (ends k) h = absurd h
      carry_onward d c s (goes t) h = h
      carry_onward d c s (forks t u) h = h

      module _ (⊑_trans : (x y z : D) → x ⊑ y → y ⊑ z → x ⊑ z) (law : (d : ℕ) (c : C) (s : S) → Fine c → Good d s → CarryLaw d c s (step c s)) where
        abbrev end : ℕ → C → S → C
        end d c s = (carry step act d c s).1

        fine : (d : ℕ) (c : C) (s : S) (x : Step S) → Fine c → CarryLaw d c s x → Fine (carries step act d c s x).1
        unfolding carries
        fine zero c s (ends k) i h = h.0
        fine zero c s (goes t) i h = absurd h
        fine zero c s (forks t u) i h = absurd h
        fine (suc d) c s (ends k) i h = h.0
        fine (suc d) c s (goes t) i h = fine d c t (step c t) i (law d c t i h.0)
        fine (suc d) c s (forks t u) i h =
            let e = end d c u in
            let f : Fine e = fine d c u (step c u) i (law d c u i h.1) in
            fine d e t (step e t) f (law d e t f h.0)

        cut_seen : (c e f : C) (s t u : S) → Cut left right s t u → Cut {S = Seen C S} (λ v. left v.pair) (λ v. right v.pair) (seen c s) (seen e t) (seen f u)
        cut_seen c e f s t u (cut_left h a b) = cut_left h a b
        cut_seen c e f s t u (cut_right h a b) = cut_right h a b

        tiled : (d : ℕ) (c : C) (s : S) (x : Step S) → Fine c → CarryLaw d c s x → Tiled {S = Seen C S} (λ v. left v.pair) (λ v. right v.pair) (carries step act d c s x).0
        unfolding carries
        tiled zero c s (ends k) i h = tt
        tiled zero c s (goes t) i h = tt
        tiled zero c s (forks t u) i h = tt
        tiled (suc d) c s (ends k) i h = tt
        tiled (suc d) c s (goes t) i h = rw (at_carries d c t (step c t)) (h.1, h.2, tiled d c t (step c t) i (law d c t i h.0))
        tiled (suc d) c s (forks t u) i h =
            let e = end d c u in
            let l = law d c u i h.1 in
            let f = fine d c u (step c u) i l in
            rw (at_carries d e t (step e t), at_carries d c u (step c u)) (cut_seen c e c s t u h.2, tiled d e t (step e t) f (law d e t f h.0), tiled d c u (step c u) i l)

        held : (d : ℕ) (c : C) (s : S) (x : Step S) → Fine c → CarryLaw d c s x → Ends NoFarther (carries step act d c s x).0
        unfolding carries
        held zero c s (ends measured) i h = tt
        held zero c s (ends ruled) i h = h.1.low
        held zero c s (ends whole) i h = tt
        held zero c s (goes t) i h = tt
        held zero c s (forks t u) i h = tt
        held (suc d) c s (ends measured) i h = tt
        held (suc d) c s (ends ruled) i h = h.1.low
        held (suc d) c s (ends whole) i h = tt
        held (suc d) c s (goes t) i h = held d c t (step c t) i (law d c t i h.0)
        held (suc d) c s (forks t u) i h =
            let e = end d c u in
            let l = law d c u i h.1 in
            let f = fine d c u (step c u) i l in
            (held d e t (step e t) f (law d e t f h.0), held d c u (step c u) i l)

        settled_fork : (c e g : C) (s t u : S) → Cut left right s t u → Settled c e u → Settled e g t → Settled c g s
        settled_fork c e g s t u k x y =
            record { low = λ p q a b. lower p q (cut_in left right k p q a b); down = λ p. ⊑_trans _ _ _ (y.down p) (x.down p); «from» = λ p. comes p (y.«from» p) (x.«from» p) }
          where
            lower : (p q : ℕ) → (In p (left t) × In q (right t)) ⊎ (In p (left u) × In q (right u)) → dist (get g p) ⊑ dist (made p q)
            lower p q (inl h) = y.low p q h.0 h.1
            lower p q (inr h) = ⊑_trans _ _ _ (y.down p) (x.low p q h.0 h.1)

            comes : (p : ℕ) → (get g p ≡ get e p) ⊎ ((q : ℕ) × In q (right t) × (get g p ≡ made p q))
                → (get e p ≡ get c p) ⊎ ((q : ℕ) × In q (right u) × (get e p ≡ made p q))
                → (get g p ≡ get c p) ⊎ ((q : ℕ) × In q (right s) × (get g p ≡ made p q))
            comes p (inl v) (inl w) = inl (v ∙ w)
            comes p (inl v) (inr w) = inr (w.0, cut_then_in left right k w.1, v ∙ w.2)
            comes p (inr v) w = inr (v.0, cut_first_in left right k v.1, v.2)

        settled_same : (c e : C) (s t : S) → left t ≡ left s → right t ≡ right s → Settled c e t → Settled c e s
        settled_same c e s t h k x =
            record { low = λ p q a b. x.low p q (rw h a) (rw k b); down = x.down; «from» = λ p. rw (← k) (x.«from» p) }

        settled : (d : ℕ) (c : C) (s : S) (x : Step S) → Fine c → CarryLaw d c s x → Settled c (carries step act d c s x).1 s
        unfolding carries
        settled zero c s (ends k) i h = h.1
        settled zero c s (goes t) i h = absurd h
        settled zero c s (forks t u) i h = absurd h
        settled (suc d) c s (ends k) i h = h.1
        settled (suc d) c s (goes t) i h = settled_same c (end d c t) s t h.1 h.2 (settled d c t (step c t) i (law d c t i h.0))
        settled (suc d) c s (forks t u) i h =
            let e = end d c u in
            let l = law d c u i h.1 in
            let f = fine d c u (step c u) i l in
            settled_fork c e (end d e t) s t u h.2 (settled d c u (step c u) i l) (settled d e t (step e t) f (law d e t f h.0))

        pub carried : (d : ℕ) (c : C) (s : S) → Fine c → Good d s → Carried d c s
        carried d c s i g =
            let l = law d c s i g in
            record { fine = fine d c s (step c s) i l; tiled = tiled d c s (step c s) i l; held = held d c s (step c s) i l; settled = settled d c s (step c s) i l }
