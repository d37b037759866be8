-- The first places of a room, lent, put back as p, and lent again. Assumes nothing.
use mathlib.Core.Path.{◌≡◌, ◌∙◌}
use mathlib.Core.List.{List, ◌++◌}
use Prim.Native.Nat.{ℕ, ◌≤◌}
use native.Mathlib.Omega.{arith}
use lib.ListN.{length, take, drop, length-append}
use lib.Seq.{length-take-le, take_at, drop_at}

module _ {X : Type 0} (n : ℕ) (l p : List X) (h : n ≤ length l) (e : length p ≡ length (take n l)) where
  pub length_first : length p ≡ n
  length_first = e ∙ length-take-le n l h

  pub first_again : take n (p ++ drop n l) ≡ p
  first_again = take_at p (drop n l) n length_first

  pub rest_stays : drop n (p ++ drop n l) ≡ drop n l
  rest_stays = drop_at p (drop n l) n length_first

  pub still_room : n ≤ length (p ++ drop n l)
  still_room = omega (arith, length-append p (drop n l), length_first)
