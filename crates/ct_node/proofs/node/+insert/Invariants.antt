use Rattle.std.proofs.Common.{length, ◌*◌, ◌+◌}
use Rattle.ct_node.proofs.node.+insert.Given as goal

abbrev pub decreases-Node::insert : goal.decreases-Node::insert
decreases-Node::insert l = 2 * length l.names.now + 1

abbrev pub decreases-insert_below : goal.decreases-insert_below
decreases-insert_below l = 2 * length l.names.now
