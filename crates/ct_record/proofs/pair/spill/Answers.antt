use Rattle.std.proofs.Common.{arith}
use Rattle.ct_pm.specs.Device.{IsIn}
use Rattle.ct_pm.proofs.Made.{makes_none, makes_then, makes_weaker}
use Rattle.ct_pm.proofs.Quiet.{quiet_here, quiet_then}
use Rattle.ct_record.proofs.Settles.{same_refl}
use Rattle.ct_record.proofs.Copies.{copied_one}
use Rattle.ct_record.proofs.pair.spill.Goals as goal

pub loop-k-init : goal.loop-k-init
loop-k-init g c = record {
  copied = record { word = λ j below. absurd (omega arith); value = λ j below. absurd (omega arith); same = same_refl _ };
  quiet = quiet_here (IsIn 528 6) (g.D.Pm.told c.args.dev.now);
  made = makes_none (λ word value. IsIn 528 6 word) (g.D.Pm.told c.args.dev.now);
  faults = omega arith;
}

pub loop-k-preserved : goal.loop-k-preserved
loop-k-preserved g c =
    let so_far = c.loop-k.invariant in
    let put = c.in_ok-put_pair.ensures in
    record {
      copied = copied_one c.loop-k.k c.load-word.result c.load-value.result (g.D.Pm.words c.args.dev.now) (g.D.Pm.words c.loop-k.dev) (g.D.Pm.words c.put_pair.new.dev) c.loop-k-test.true so_far.copied c.load-word.ensures c.load-value.ensures put.word put.value put.same;
      quiet = quiet_then (IsIn 528 6) (λ word inside. (omega (arith, inside.0), omega (arith, inside.1, c.loop-k-test.true))) so_far.quiet put.quiet;
      made = makes_then so_far.made (makes_weaker (λ word value. IsIn 528 6 word) (λ word value inside. (omega (arith, inside.0), omega (arith, inside.1, c.loop-k-test.true))) put.made);
      faults = omega (arith, so_far.faults, put.cause.later);
    }

pub returns-in_err-put_pair-clause-quiet : goal.returns-in_err-put_pair-clause-quiet
returns-in_err-put_pair-clause-quiet g c =
    quiet_then (IsIn 528 6) (λ word inside. (omega (arith, inside.0), omega (arith, inside.1, c.loop-k-test.true))) c.loop-k.invariant.quiet c.put_pair.ensures.quiet

pub returns-in_err-put_pair-clause-made : goal.returns-in_err-put_pair-clause-made
returns-in_err-put_pair-clause-made g c =
    makes_then c.loop-k.invariant.made (makes_weaker (λ word value. IsIn 528 6 word) (λ word value inside. (omega (arith, inside.0), omega (arith, inside.1, c.loop-k-test.true))) c.put_pair.ensures.made)
