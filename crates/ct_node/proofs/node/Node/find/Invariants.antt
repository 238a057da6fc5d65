use Rattle.std.proofs.Common.{◌≡◌, drop}
use Rattle.ct_tree.specs.Resolve.{resolve}
use Rattle.ct_base.specs.Path.{texts}
use Rattle.ct_node.proofs.node.Node.find.Given as goal

abbrev pub invariant-loop-name : goal.invariant-loop-name
invariant-loop-name l = resolve l.here (texts (drop l.name-index l.names)) ≡ resolve l.self (texts l.names)
