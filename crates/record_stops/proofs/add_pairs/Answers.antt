use Rattle.std.proofs.Common.{arith}
use Rattle.ct_pm.proofs.Made.{makes_none, makes_then}
use Rattle.ct_record.specs.Record.{StaysInLine}
use Rattle.ct_record.specs.Seen.{told_under}
use Rattle.record_stops.proofs.add_pairs.Goals as goal

pub loop-i-init : goal.loop-i-init
loop-i-init g c = record { count = c.requires.none; short = λ few short. short; line = λ few short. makes_none StaysInLine (told_under c.args.draft.now) }

pub loop-i-preserved : goal.loop-i-preserved
loop-i-preserved g c =
    let so_far = c.loop-i.invariant in
    record {
      count = omega (arith, so_far.count, c.in-Ok.ensures.count);
      short = λ few short. c.add.ensures.short (so_far.short few short) (omega (arith, so_far.count, c.loop-i-test.true));
      line = λ few short. makes_then (so_far.line few short) (c.add.ensures.in_line (so_far.short few short) (omega (arith, so_far.count, c.loop-i-test.true)));
    }

pub returns-in-Err-clause-short : goal.returns-in-Err-clause-short
returns-in-Err-clause-short g c = λ few short.
    let so_far = c.loop-i.invariant in c.add.ensures.short (so_far.short few short) (omega (arith, so_far.count, c.loop-i-test.true))

pub returns-in-Err-clause-in_line : goal.returns-in-Err-clause-in_line
returns-in-Err-clause-in_line g c = λ few short.
    let so_far = c.loop-i.invariant in makes_then (so_far.line few short) (c.add.ensures.in_line (so_far.short few short) (omega (arith, so_far.count, c.loop-i-test.true)))
