use Rattle.ct_node.proofs.Walks.{some_entries}
use Rattle.ct_node.proofs.node.check_empty.Goals as goal

pub returns-in-len1-up : goal.returns-in-len1-up
returns-in-len1-up c = some_entries c.args.entries.now c.in-len1-up.len_at_least
