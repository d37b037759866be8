-- The measure is the levels left below the node. Assumes nothing.
use Rattle.tree.proofs.down.+down.Given as goal

abbrev pub decreases-down : goal.decreases-down
decreases-down g l = l.c.remaining
