-- What the check's tests mean: a test at every place of a stretch, a test at every node. Assumes nothing.
use Rattle.std.specs.Prelude.{◌≡◌, ◌↔◌, ◌≢◌, Bool, false, not, ◌&&◌, ◌||◌, cond, T, ltb, eqb, Float}
use Rattle.std.proofs.Math.Path.{refl}
use Rattle.std.proofs.Common.{sym, ap, inl, inr, true≢false, ltb→lt, nltb→le}
use Rattle.std.proofs.Math.Bool.{true}
use Prim.Native.Nat.{ℕ, zero, suc, ◌+◌, ◌-◌, ◌^◌, ◌≤◌, ◌<◌}
use Rattle.std.proofs.Math.Decide.{ℕ_discrete}
use native.Mathlib.Omega.{arith}
use Rattle.std.specs.Float.{nan, inf, fin}
use Rattle.std.specs.Float.Ieee.{lt}
use Rattle.written.specs.Places.{Part, In}
use Rattle.written.specs.LentTree.{Tree, coord, levels, stem_count, Cursor, root, span, near, far, Node, the_root, near_of, far_of, axis, pivot, part}
use Rattle.written.specs.Check.{every, every_in, down, no_pivot, is_top, pivot_ok, left_ok, right_ok, top_ok}
use Rattle.written.specs.Rules.{OrderKept}
use Rattle.written.proofs.Laws.Tests.{gave, not_both, not-true, both, three, either, equal, not_zero}

-- ---- every place

module _ (test : ℕ → Bool) where
  every_there : (a n : ℕ) → every test a n ≡ true → (p : ℕ) → a ≤ p → p < a + n → test p ≡ true
  unfolding every
  every_there a zero e p i k = absurd (omega arith)
  every_there a (suc n) e p i k =
      let cut = (both (test a) (every test (suc a) n)).0 e in
      go cut.0 (every_there (suc a) n cut.1 p) (ℕ_discrete p a)
    where
      go : test a ≡ true → (suc a ≤ p → p < suc a + n → test p ≡ true) → Dec (p ≡ a) → test p ≡ true
      go u f (yes q) = rw q u
      go u f (no q) = f (omega arith) (omega arith)

  every_back : (a n : ℕ) → ((p : ℕ) → a ≤ p → p < a + n → test p ≡ true) → every test a n ≡ true
  unfolding every
  every_back a zero h = refl
  every_back a (suc n) h = (both (test a) (every test (suc a) n)).1 (h a (omega arith) (omega arith), every_back (suc a) n (λ p i k. h p (omega arith) (omega arith)))

  pub every_below : (n : ℕ) → (every test 0 n ≡ true) ↔ ((p : ℕ) → p < n → test p ≡ true)
  every_below n = (λ e p k. every_there 0 n e p (omega arith) (omega arith), λ h. every_back 0 n (λ p i k. h p (omega arith)))

  pub every_in_lem : (w : Part) → (every_in test w ≡ true) ↔ ((p : ℕ) → In p w → test p ≡ true)
  every_in_lem w = (λ e p i. every_there w.from w.size e p i.above i.below, λ h. every_back w.from w.size (λ p i k. h p (record { above = i; below = k })))

-- ---- every node with a level left

module _ (test : Cursor → Bool) where
  abbrev Downs : ℕ → Cursor → Type 0
  Downs r c = (test c ≡ true) × (down test r (near c) ≡ true) × (down test r (far c) ≡ true)

  down_is : (r : ℕ) (c : Cursor) → (down test (suc r) c ≡ true) ↔ Downs r c
  unfolding down
  down_is r c = three (test c) (down test r (near c)) (down test r (far c))

  down_here : (c : Cursor) → 0 < c.rest → down test c.rest c ≡ true → Downs (c.rest - 1) c
  down_here c h e = go c.rest h e
    where
      go : (r : ℕ) → 0 < r → down test r c ≡ true → Downs (r - 1) c
      go zero h e = absurd (omega arith)
      go (suc r) h e =
          let q : suc r - 1 ≡ r = omega arith in
          rw q ((down_is r c).0 e)

  down_node : {t : Tree} {c : Cursor} → down test (root t).rest (root t) ≡ true → Node t c → down test c.rest c ≡ true
  down_node e the_root = e
  down_node e (near_of {c = c} n h) = (down_here c h (down_node e n)).1
  down_node e (far_of {c = c} n h) = (down_here c h (down_node e n)).2

  down_back : (t : Tree) → ((c : Cursor) → Node t c → 0 < c.rest → test c ≡ true) → (r : ℕ) (c : Cursor) → Node t c → c.rest ≡ r → down test r c ≡ true
  unfolding down
  down_back t h zero c n e = refl
  down_back t h (suc r) c n e =
      let k : 0 < c.rest = omega arith in
      (three (test c) (down test r (near c)) (down test r (far c))).1 (h c n k, down_back t h r (near c) (near_of n k) (omega arith), down_back t h r (far c) (far_of n k) (omega arith))

  pub every_node : (t : Tree) → (down test (root t).rest (root t) ≡ true) ↔ ((c : Cursor) → Node t c → 0 < c.rest → test c ≡ true)
  every_node t = (λ e c n h. (down_here c h (down_node e n)).0, λ h. down_back t h (root t).rest (root t) the_root refl)

-- ---- how many stems

pub stems_are : (m n : ℕ) → (eqb n (stem_count m) ≡ true) ↔ ((m < 2 → n ≡ 0) × (2 ≤ m → n ≡ 2 ^ levels m))
stems_are m n = go (ltb m 2) (ltb→lt m 2) (nltb→le m 2)
  where
    go : (b : Bool) → (T b → m < 2) → (T (not b) → 2 ≤ m) → (eqb n (cond b 0 (2 ^ levels m)) ≡ true) ↔ ((m < 2 → n ≡ 0) × (2 ≤ m → n ≡ 2 ^ levels m))
    go true h k = (λ e. (λ l. (equal n 0).0 e, λ l. absurd (omega (arith, h tt))), λ s. (equal n 0).1 (s.0 (h tt)))
    go false h k = (λ e. (λ l. absurd (omega (arith, k tt)), λ l. (equal n (2 ^ levels m)).0 e), λ s. (equal n (2 ^ levels m)).1 (s.1 (k tt)))

-- ---- pivots

pub pivot_is : (v : Float) → (not (no_pivot v) ≡ true) ↔ ((v ≢ nan) × (v ≢ inf true))
pivot_is v = (λ e. (λ q. not_both (ap no_pivot q) (not-true (no_pivot v) e), λ q. not_both (ap no_pivot q) (not-true (no_pivot v) e)), λ h. back v h.0 h.1)
  where
    back : (v : Float) → v ≢ nan → v ≢ inf true → not (no_pivot v) ≡ true
    back nan h k = absurd (h refl)
    back (inf true) h k = absurd (k refl)
    back (inf false) h k = refl
    back (fin s m e) h k = refl

pub top_is : (v : Float) → (is_top v ≡ true) ↔ (v ≡ inf false)
top_is v = (there v, λ q. rw q refl)
  where
    there : (v : Float) → is_top v ≡ true → v ≡ inf false
    there nan e = absurd (true≢false (sym e))
    there (inf true) e = absurd (true≢false (sym e))
    there (inf false) e = refl
    there (fin s m x) e = absurd (true≢false (sym e))

-- ---- one node

pub not_is : (b : Bool) → (not b ≡ true) ↔ (T b → ⊥)
not_is true = (λ e. absurd (true≢false (sym e)), λ h. absurd (h tt))
not_is false = (λ e h. h, λ h. refl)

pub pivot_ok_lem : (K : ℕ) (t : Tree) (c : Cursor) → (pivot_ok K t c ≡ true) ↔ (0 < span c → (pivot t c ≢ nan) × (pivot t c ≢ inf true))
pivot_ok_lem K t c = (there, λ h. go (eqb (span c) 0) refl h)
  where
    there : pivot_ok K t c ≡ true → 0 < span c → (pivot t c ≢ nan) × (pivot t c ≢ inf true)
    there e h = elim (either (eqb (span c) 0) (not (no_pivot (pivot t c))) e) [ inl u ↦ absurd (omega (arith, (equal (span c) 0).0 u)) | inr u ↦ (pivot_is (pivot t c)).0 u ]

    go : (b : Bool) → eqb (span c) 0 ≡ b → (0 < span c → (pivot t c ≢ nan) × (pivot t c ≢ inf true)) → (b || not (no_pivot (pivot t c))) ≡ true
    go true u h = refl
    go false u h = (pivot_is (pivot t c)).1 (h (not_zero (span c) u))

pub top_ok_lem : (K : ℕ) (t : Tree) (c : Cursor) → (top_ok K t c ≡ true) ↔ (pivot t c ≡ inf false → (p : ℕ) → In p (part t (far c)) → ⊥)
top_ok_lem K t c = (there, λ h. go (is_top (pivot t c)) refl h)
  where
    size : ℕ
    size = (part t (far c)).size

    there : top_ok K t c ≡ true → pivot t c ≡ inf false → (p : ℕ) → In p (part t (far c)) → ⊥
    there e q p i =
        elim (either (not (is_top (pivot t c))) (eqb size 0) e) [ inl u ↦ (not_is (is_top (pivot t c))).0 u (gave ((top_is (pivot t c)).1 q)) | inr u ↦ omega (arith, (equal size 0).0 u, i) ]

    none : (n : ℕ) → ((p : ℕ) → p < n → ⊥) → eqb n 0 ≡ true
    none zero h = refl
    none (suc n) h = absurd (h 0 (omega arith))

    go : (b : Bool) → is_top (pivot t c) ≡ b → (pivot t c ≡ inf false → (p : ℕ) → In p (part t (far c)) → ⊥) → (not b || eqb size 0) ≡ true
    go true u h = none size (λ p k. h ((top_is (pivot t c)).0 u) ((part t (far c)).from + p) (record { above = omega arith; below = omega arith }))
    go false u h = refl

pub order_ok_lem : (K : ℕ) (t : Tree) (c : Cursor) → ((left_ok K t c && right_ok K t c && top_ok K t c) ≡ true) ↔ OrderKept K t c
order_ok_lem K t c = (there, back)
  where
    left : (left_ok K t c ≡ true) ↔ ((p : ℕ) → In p (part t (near c)) → not (lt (pivot t c) (coord t (axis K c) p)) ≡ true)
    left = every_in_lem (λ p. not (lt (pivot t c) (coord t (axis K c) p))) (part t (near c))

    right : (right_ok K t c ≡ true) ↔ ((p : ℕ) → In p (part t (far c)) → not (lt (coord t (axis K c) p) (pivot t c)) ≡ true)
    right = every_in_lem (λ p. not (lt (coord t (axis K c) p) (pivot t c))) (part t (far c))

    there : (left_ok K t c && right_ok K t c && top_ok K t c) ≡ true → OrderKept K t c
    there e =
        let h = (three (left_ok K t c) (right_ok K t c) (top_ok K t c)).0 e in
        record { left_half = λ p i. (not_is (lt (pivot t c) (coord t (axis K c) p))).0 (left.0 h.0 p i); right_half = λ p i. (not_is (lt (coord t (axis K c) p) (pivot t c))).0 (right.0 h.1 p i); under_top = (top_ok_lem K t c).0 h.2 }

    back : OrderKept K t c → (left_ok K t c && right_ok K t c && top_ok K t c) ≡ true
    back k =
        (three (left_ok K t c) (right_ok K t c) (top_ok K t c)).1
        (left.1 (λ p i. (not_is (lt (pivot t c) (coord t (axis K c) p))).1 (k.left_half p i)), right.1 (λ p i. (not_is (lt (coord t (axis K c) p) (pivot t c))).1 (k.right_half p i)), (top_ok_lem K t c).1 k.under_top)
