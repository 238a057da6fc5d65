-- Each entry of a directory has fewer nodes than the directory.
use Rattle.std.specs.Prelude.{◌+◌, ◌≤◌, max, List, [], ◌∷◌}
use Rattle.std.proofs.Common.{arith}
use denote.Param.Weighed.{most, w_this}
use Rattle.ct_node.specs.declared.node.Entry.{Entry}
use Rattle.ct_node.specs.declared.node.Kind.{Kind}
use Rattle.ct_node.specs.declared.node.Kind.TheVariants.{File, Dir}
use Rattle.ct_node.specs.declared.node.Node.TheDeep.{deep-Kind, deep-Entry}
use Rattle.ct_tree.specs.Tree.{nodes, nodes_below}
use Rattle.ct_node.specs.Listed.{listed, tree_of}

most_le : (es : List Entry) → most (w_this.weight Entry deep-Entry) es ≤ nodes_below (listed es) + 1
most_le [] = omega arith
most_le (e ∷ es) = omega (arith, most_le es)

pub depth_le-nodes : (k : Kind) → max (deep-Kind k) 0 ≤ nodes (tree_of k)
depth_le-nodes (File bytes) = omega arith
depth_le-nodes (Dir es) = omega (arith, most_le es.items)
