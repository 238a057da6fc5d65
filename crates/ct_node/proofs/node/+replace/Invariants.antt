use Rattle.std.proofs.Common.{length, ◌*◌, ◌+◌}
use Rattle.ct_node.proofs.node.+replace.Given as goal

abbrev pub decreases-Node::replace : goal.decreases-Node::replace
decreases-Node::replace l = 2 * length l.names.now + 1

abbrev pub decreases-replace_below : goal.decreases-replace_below
decreases-replace_below l = 2 * length l.names.now
