use Rattle.std.proofs.Common.{◌≡◌, ◌<◌, length, drop}
use Rattle.ct_base.specs.Path.{texts}
use Rattle.ct_tree.specs.Resolve.{lies_below}
use Rattle.ct_tree.proofs.checks.lies_below.Given as goal

abbrev pub invariant-loop-i : goal.invariant-loop-i
invariant-loop-i l = record {
  longer : length l.names < length l.to;
  rest : lies_below (texts (drop l.i l.names)) (texts (drop l.i l.to)) ≡ lies_below (texts l.names) (texts l.to);
}
