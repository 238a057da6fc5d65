-- The entries that a directory's rows stand for.
use Rattle.std.specs.Prelude.{List, [], ◌∷◌}
use Rattle.ct_tree.specs.Tree.{Tree, File as file, Dir as dir, Entries, none, entry}
use Rattle.ct_node.specs.declared.node.Entry.{Entry}
use Rattle.ct_node.specs.declared.node.Kind.{Kind}
use Rattle.ct_node.specs.declared.node.Kind.TheVariants.{File, Dir}

abbrev pub listed : List Entry → Entries
listed [] = none
listed (e ∷ es) = entry e.name.items e.node (listed es)

abbrev pub tree_of : Kind → Tree
tree_of (File bytes) = file bytes.items
tree_of (Dir es) = dir (listed es.items)
