use Rattle.std.proofs.Common.{◌≡◌, take}
use Rattle.ct_node.specs.Listed.{listed}
use Rattle.ct_node.proofs.node.Node.+copy.Given as goal

abbrev pub invariant-loop-entry : goal.invariant-loop-entry
invariant-loop-entry l = listed l.all.items ≡ listed (take l.entry-index l.entry-items)
