-- A node with a level left has its pivot among the stems. Assumes nothing.
use Rattle.written.proofs.Laws.LentTree.{on_node}
use Rattle.tree.proofs.Nodes.{stem_read}
use Rattle.tree.proofs.pivots.PivotsNodeRule.holds.Goals as goal

pub span-requires : goal.span-requires
span-requires c = (on_node c.requires.0.node).ordered

pub pivot-requires : goal.pivot-requires
pivot-requires c = stem_read c.requires.0 c.requires.1
