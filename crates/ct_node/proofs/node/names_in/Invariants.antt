use Rattle.std.proofs.Common.{◌≡◌, map, take}
use Rattle.ct_node.specs.Listed.{listed}
use Rattle.ct_tree.specs.Step.{names_in}
use Rattle.ct_node.proofs.node.names_in.Given as goal

abbrev pub invariant-loop-entry : goal.invariant-loop-entry
invariant-loop-entry l = map (λ n. n.items) l.names.items ≡ names_in (listed (take l.entry-index l.entries))
