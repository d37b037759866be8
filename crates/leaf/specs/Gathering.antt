-- What one keeps to that pairs are gathered in: `takes a l` says that a can take the pairs l, `after a l b` that b is a with them. Assumes nothing.
use Rattle.std.specs.Prelude.{List, [], ◌++◌}
use Rattle.written.specs.RadiusWalk.{Found}

pub record GatherLaws {S : Type 0} (takes : S → List Found → Type 0) (after : S → List Found → S → Type 0) : Type 0 where
  -- nothing gathered changes nothing
  pub none : (a : S) → after a [] a
  -- what is gathered in two parts is gathered
  pub both : (a b c : S) (l m : List Found) → after a l b → after b m c → after a (l ++ m) c
  -- what can be taken can be taken in two parts
  pub first : (a : S) (l m : List Found) → takes a (l ++ m) → takes a l
  pub then : (a b : S) (l m : List Found) → takes a (l ++ m) → after a l b → takes b m
