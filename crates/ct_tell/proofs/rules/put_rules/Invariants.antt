use Rattle.std.proofs.Common.{◌≤◌}
use Rattle.std.specs.Io.KnownBytes.{Appends}
use Rattle.ct_tell.specs.Rules.{rule_lines}
use Rattle.ct_tell.proofs.rules.put_rules.Given as goal

abbrev pub invariant-loop-rule : goal.invariant-loop-rule
invariant-loop-rule g l = record {
  bytes : Appends (g.O.Sink.written l.fn.out) (g.O.Sink.written l.out) (rule_lines 0 l.rule);
  later : g.O.Sink.faults l.fn.out ≤ g.O.Sink.faults l.out;
}
