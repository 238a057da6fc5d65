use Rattle.std.proofs.Common.{arith}
use Rattle.ct_tell.proofs.RuleLines.{lines_more, lines_none, lines_torn}
use Rattle.ct_tell.proofs.rules.put_rules.Goals as goal

pub loop-rule-init : goal.loop-rule-init
loop-rule-init g c = record { bytes = lines_none (g.O.Sink.written c.args.out.now); later = omega arith }

pub loop-rule-preserved : goal.loop-rule-preserved
loop-rule-preserved g c = record {
  bytes = lines_more (g.O.Sink.written c.args.out.now) (g.O.Sink.written c.loop-rule.out) (g.O.Sink.written c.put_rule.new.out) c.loop-rule.rule c.loop-rule.invariant.bytes c.in-Ok.ensures.bytes;
  later = let had = c.loop-rule.invariant.later in let more = c.in-Ok.ensures.cause.later in omega (arith, had, more);
}

pub returns-in-Err-clause-bytes : goal.returns-in-Err-clause-bytes
returns-in-Err-clause-bytes g c =
    lines_torn (g.O.Sink.written c.args.out.now) (g.O.Sink.written c.loop-rule.out) (g.O.Sink.written c.put_rule.new.out) c.loop-rule.rule c.loop-rule-test.true c.loop-rule.invariant.bytes c.in-Err.ensures.bytes
