use Rattle.std.proofs.Common.{length, ◌*◌, ◌+◌}
use Rattle.ct_node.proofs.node.+remove.Given as goal

abbrev pub decreases-Node::remove : goal.decreases-Node::remove
decreases-Node::remove l = 2 * length l.names.now + 1

abbrev pub decreases-remove_below : goal.decreases-remove_below
decreases-remove_below l = 2 * length l.names.now
