-- The lengths at which buffers are lent, within the arrays that hold them. Assumes nothing.
use Rattle.std.specs.Prelude.{◌≡◌, List, ℕ, ◌≤◌, length, Float}
use Rattle.replay.specs.declared.lengths.TreeLengths.{TreeLengths}
use Rattle.replay.specs.declared.lengths.Lengths.{Lengths}

pub record TreeFits (n : TreeLengths) : Type 0 where
  pub starts : n.starts ≤ 4098
  pub stems : n.stems ≤ 2048
  pub items : n.items ≤ 65537
  pub coords : n.coords ≤ 2048

pub record Fits (n : Lengths) : Type 0 where
  pub left : TreeFits n.left
  pub right : TreeFits n.right
  pub lout : n.lout ≤ 1025
  pub rout : n.rout ≤ 1025
  pub dout : n.dout ≤ 1025

-- the arrays of one tree, at their full lengths
pub record Full (starts : List ℕ) (stems : List Float) (items : List ℕ) (coords : List Float) : Type 0 where
  pub starts_length : length starts ≡ 4098
  pub stems_length : length stems ≡ 2048
  pub items_length : length items ≡ 65537
  pub coords_length : length coords ≡ 2048
