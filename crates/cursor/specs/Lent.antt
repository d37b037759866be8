-- The lent trees ("A lent tree") as the code holds them. Assumes nothing.
use Rattle.written.specs.LentTree.{Tree}
use Rattle.written.specs.Boxes.{Trees}
use Rattle.cursor.specs.declared.lent.Tree.{Tree as HeldTree}
use Rattle.cursor.specs.declared.lent.Trees.{Trees as HeldTrees}

abbrev pub lent_tree : HeldTree → Tree
lent_tree t = record { starts = t.starts.now; stems = t.stems.now; items = t.items.now; coords = t.coords.now }

abbrev pub lent_trees : HeldTrees → Trees
lent_trees t = record { axes = t.k; left = lent_tree t.left; right = lent_tree t.right }
