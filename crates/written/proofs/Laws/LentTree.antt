-- A lent tree whose starts rise: the halves of a node share out its places; how many levels a tree has; where a node's stem and leaves stand. Assumes nothing.
use Rattle.std.specs.Prelude.{◌≡◌, refl, Bool, true, false, not, cond, ℕ, zero, suc, ◌+◌, ◌-◌, ◌*◌, ◌^◌, ◌≤◌, ◌<◌, min, T, leb}
use Rattle.std.proofs.Common.{sym, subst, zero-add, add-zero, suc-add, add-suc, arith, pow_mono, leb→le}
use Rattle.std.proofs.Math.Nat.{sub-zero}
use Rattle.std.proofs.Math.Decide.{dec_lt}
use Rattle.std.proofs.Math.Dec.{nleb→lt}
use Rattle.written.specs.Places.{In}
use Rattle.written.specs.LentTree.{Tree, leaves, places, start, first_from, levels, Cursor, root, middle, near, far, Node, the_root, near_of, far_of, part}
use Rattle.written.specs.NodePairs.{all_places}
use Rattle.written.proofs.Laws.Places.{Halves}

-- the starts begin at 0, never fall and end at the number of items
pub record Laid (t : Tree) : Type 0 where
  pub begins : start t 0 ≡ 0
  pub rises : (i j : ℕ) → i ≤ j → j ≤ leaves t → start t i ≤ start t j
  pub finishes : start t (leaves t) ≡ places t

-- a cursor is over leaves of the tree
pub record On (t : Tree) (c : Cursor) : Type 0 where
  pub ordered : c.first ≤ c.end
  pub inside : c.end ≤ leaves t

pub on_node : {t : Tree} {c : Cursor} → Node t c → On t c
on_node the_root = record { ordered = omega arith; inside = omega arith }
on_node (near_of n h) = let o = on_node n in record { ordered = omega arith; inside = omega arith }
on_node (far_of n h) = let o = on_node n in record { ordered = omega arith; inside = omega arith }

-- ---- places under a node

module _ (t : Tree) (c : Cursor) (l : Laid t) (n : Node t c) where
  pub part_halves : Halves (part t c) (part t (near c)) (part t (far c))
  part_halves =
      let o : On t c = on_node n in
      let x : start t c.first ≤ start t (middle c) = l.rises c.first (middle c) (omega arith) (omega arith) in
      let y : start t (middle c) ≤ start t c.end = l.rises (middle c) c.end (omega arith) o.inside in
      record { first = refl; then = omega arith; both = omega arith }

  pub part_in : {p : ℕ} → In p (part t c) → p < places t
  part_in {p} i =
      let o : On t c = on_node n in
      let x : start t c.first ≤ start t c.end = l.rises c.first c.end o.ordered o.inside in
      let y : start t c.end ≤ start t (leaves t) = l.rises c.end (leaves t) o.inside (omega arith) in
      omega (arith, l.finishes)

pub part_root : (t : Tree) → Laid t → part t (root t) ≡ all_places t
part_root t l = rw (l.begins, l.finishes, sub-zero)

-- ---- levels: the least exponent whose power of two is not below m

first_enough : (k r m : ℕ) → m ≤ 2 ^ (r + k) → m ≤ 2 ^ first_from k r m
unfolding first_from
first_enough zero r m h = rw add-zero at h
first_enough (suc k) r m h = go (leb m (2 ^ r)) refl (first_enough k (suc r) m (rw (suc-add, ← add-suc) h))
  where
    go : (b : Bool) → leb m (2 ^ r) ≡ b → m ≤ 2 ^ first_from k (suc r) m → m ≤ 2 ^ cond b r (first_from k (suc r) m)
    go true e x = leb→le m (2 ^ r) (subst T (sym e) tt)
    go false e x = x

below_pow : (m : ℕ) → suc m ≤ 2 ^ m
below_pow zero = omega arith
below_pow (suc m) = omega (arith, below_pow m)

pub levels_enough : (m : ℕ) → m ≤ 2 ^ levels m
unfolding levels
levels_enough m = first_enough m 0 m (rw zero-add (omega (arith, below_pow m)))

first_least : (k r m n : ℕ) → r ≤ n → m ≤ 2 ^ n → first_from k r m ≤ n
unfolding first_from
first_least zero r m n h i = h
first_least (suc k) r m n h i = go (leb m (2 ^ r)) refl (first_least k (suc r) m n)
  where
    go : (b : Bool) → leb m (2 ^ r) ≡ b → (suc r ≤ n → m ≤ 2 ^ n → first_from k (suc r) m ≤ n) → cond b r (first_from k (suc r) m) ≤ n
    go true e f = h
    go false e f = f (above (dec_lt r n)) i
      where
        more : 2 ^ r < m
        more = nleb→lt m (2 ^ r) (subst (λ (b : Bool). T (not b)) (sym e) tt)

        above : Dec (r < n) → suc r ≤ n
        above (yes l) = omega arith
        above (no l) = absurd (omega (arith, more, pow_mono {i = n} {j = r} (omega arith)))

pub levels_least : (m n : ℕ) → m ≤ 2 ^ n → levels m ≤ n
unfolding levels
levels_least m n h = first_least m 0 m n (omega arith) h

-- ---- where a node of a tree with m leaves stands

pub record Placed (m : ℕ) (c : Cursor) : Type 0 where
  pub begins : c.first ≤ m
  pub clipped : c.end ≡ min (c.first + 2 ^ c.rest) m
  pub low : 2 ^ c.level ≤ c.stem
  pub high : c.stem < 2 ^ suc c.level
  pub sum : c.level + c.rest ≡ levels m

pub pow_half : (n : ℕ) → 0 < n → 2 ^ n ≡ 2 * 2 ^ (n - 1)
pow_half zero h = absurd (omega arith)
pow_half (suc n) h =
    let e : suc n - 1 ≡ n = omega arith in
    rw e (omega arith)

module _ (m : ℕ) (c : Cursor) (h : 0 < c.rest) (p : Placed m c) where
  placed_near : Placed m (near c)
  placed_near =
      let low : 2 ^ suc c.level ≤ 2 * c.stem = omega (arith, p.low) in
      record { begins = p.begins; clipped = omega (arith, pow_half c.rest h, p.clipped); low = low; high = omega (arith, p.high); sum = omega (arith, p.sum) }

  placed_far : Placed m (far c)
  placed_far =
      let low : 2 ^ suc c.level ≤ 2 * c.stem + 1 = omega (arith, p.low) in
      record { begins = omega (arith, p.clipped, p.begins); clipped = omega (arith, pow_half c.rest h, p.clipped, p.begins); low = low; high = omega (arith, p.high); sum = omega (arith, p.sum) }

pub placed : {t : Tree} {c : Cursor} → Node t c → Placed (leaves t) c
placed {t} the_root = record { begins = omega arith; clipped = omega (arith, levels_enough (leaves t)); low = omega arith; high = omega arith; sum = zero-add (levels (leaves t)) }
placed {t} (near_of {c = c} n h) = placed_near (leaves t) c h (placed n)
placed {t} (far_of {c = c} n h) = placed_far (leaves t) c h (placed n)
