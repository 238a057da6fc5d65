use Rattle.std.proofs.Common.{◌∙◌, ◌≤◌, arith}
use Rattle.ct_record.proofs.Applying.{MayApply, pairs_within, targets_within, one_more, some_applied, quiet_more, makes_more}
use Rattle.ct_record.proofs.Drafts.{err_of}
use Rattle.ct_record.proofs.pair.store_pairs.Goals as goal

pub store_pair-requires-clause-pair : goal.store_pair-requires-clause-pair
store_pair-requires-clause-pair g c =
    let may : MayApply c.args.from c.args.count (g.D.Pm.words c.args.dev.now) = record { inside = c.requires.inside; pages = c.requires.pages; targets = c.requires.targets } in
    let within : c.loop-i.i ≤ c.args.count = omega (arith, c.loop-i-test.true) in
    let pairs = pairs_within may within c.loop-i.invariant.words in
    omega (arith, c.loop-i-test.true, pairs)

pub store_pair-requires-clause-target : goal.store_pair-requires-clause-target
store_pair-requires-clause-target g c =
    let within : c.loop-i.i ≤ c.args.count = omega (arith, c.loop-i-test.true) in
    targets_within (record { inside = c.requires.inside; pages = c.requires.pages; targets = c.requires.targets }) within c.loop-i.invariant.words c.loop-i.i c.loop-i-test.true

pub returns-in_err-store_pair-clause-quiet : goal.returns-in_err-store_pair-clause-quiet
returns-in_err-store_pair-clause-quiet g c =
    let within : c.loop-i.i ≤ c.args.count = omega (arith, c.loop-i-test.true) in
    quiet_more (record { inside = c.requires.inside; pages = c.requires.pages; targets = c.requires.targets }) within c.loop-i.invariant.words c.loop-i-test.true c.loop-i.invariant.quiet c.store_pair.ensures.quiet

pub returns-in_err-store_pair-clause-made : goal.returns-in_err-store_pair-clause-made
returns-in_err-store_pair-clause-made g c =
    let within : c.loop-i.i ≤ c.args.count = omega (arith, c.loop-i-test.true) in
    makes_more (record { inside = c.requires.inside; pages = c.requires.pages; targets = c.requires.targets }) within c.loop-i.invariant.words c.loop-i-test.true c.loop-i.invariant.made c.store_pair.ensures.made

pub returns-in_err-store_pair-clause-err : goal.returns-in_err-store_pair-clause-err
returns-in_err-store_pair-clause-err g c =
    let within : c.loop-i.i ≤ c.args.count = omega (arith, c.loop-i-test.true) in
    err_of c.from_residual.result
    (some_applied (record { inside = c.requires.inside; pages = c.requires.pages; targets = c.requires.targets }) within (c.in_err-store_pair.ensures.err ∙ c.loop-i.invariant.words))

pub loop-i-preserved : goal.loop-i-preserved
loop-i-preserved g c =
    let may : MayApply c.args.from c.args.count (g.D.Pm.words c.args.dev.now) = record { inside = c.requires.inside; pages = c.requires.pages; targets = c.requires.targets } in
    let so_far = c.loop-i.invariant in
    let one = c.in_ok-store_pair.ensures in
    let within : c.loop-i.i ≤ c.args.count = omega (arith, c.loop-i-test.true) in
    record {
      words = one_more may within so_far.words c.loop-i-test.true (g.D.Pm.words c.store_pair.new.dev) one.words;
      quiet = quiet_more may within so_far.words c.loop-i-test.true so_far.quiet one.quiet;
      made = makes_more may within so_far.words c.loop-i-test.true so_far.made c.store_pair.ensures.made;
      faults = omega (arith, so_far.faults, one.cause.later);
    }
