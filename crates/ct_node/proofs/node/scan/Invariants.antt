use Rattle.std.proofs.Common.{◌≡◌, drop}
use Rattle.ct_tree.specs.Entries.{place_of, later}
use Rattle.ct_node.specs.Listed.{listed}
use Rattle.ct_node.proofs.node.scan.Given as goal

abbrev pub invariant-loop-i : goal.invariant-loop-i
invariant-loop-i l = later l.i (place_of l.name (listed (drop l.i l.entries))) ≡ place_of l.name (listed l.entries)
