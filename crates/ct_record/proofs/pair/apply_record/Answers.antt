use Rattle.std.proofs.Common.{subst, sym, arith}
use Rattle.std.specs.Prelude.{slice_index}
use Rattle.ct_base.specs.Settled.{HasFewPairs, open_pairs}
use Rattle.ct_pm.proofs.Made.{makes_step}
use Rattle.ct_record.specs.Record.{OpensOnly, SettlesTo}
use Rattle.ct_pm.proofs.Told.{fenced}
use Rattle.ct_record.proofs.Applying.{applying_settles, applying_lawful, applied_some, some_settles, some_lawful, applied_fenced, open_made, applying_opens, some_opens, apply_line}
use Rattle.ct_record.proofs.Drafts.{err_of}
use Rattle.ct_record.proofs.pair.apply_record.Goals as goal

pub returns-in_err-apply_pairs-clause-any_moment : goal.returns-in_err-apply_pairs-clause-any_moment
returns-in_err-apply_pairs-clause-any_moment g c =
    applying_settles c.open_place-from.ensures c.requires.record (g.met.D.Pm.replays c.args.dev.now) c.requires.settled c.apply_pairs.ensures.quiet

pub returns-in_err-apply_pairs-clause-err : goal.returns-in_err-apply_pairs-clause-err
returns-in_err-apply_pairs-clause-err g c =
    err_of c.from_residual.result (applied_some c.open_place-from.ensures c.requires.record (g.D.Pm.words c.apply_pairs.new.dev) c.in_err-apply_pairs.ensures.err)

pub returns-clause-settled : goal.returns-clause-settled
returns-clause-settled g c =
    applied_fenced c.open_place-from.ensures c.requires.record (g.D.Pm.words c.apply_pairs.new.dev) (g.met.D.Pm.replays c.args.dev.now) c.requires.settled c.apply_pairs.ensures.quiet
    c.in_ok-apply_pairs.ensures.words (g.met.D.Pm.replays c.apply_pairs.new.dev) c.in_ok-apply_pairs.ensures.back c.fence.ensures.step

pub returns-clause-any_moment : goal.returns-clause-any_moment
returns-clause-any_moment g c =
    fenced (applying_settles c.open_place-from.ensures c.requires.record (g.met.D.Pm.replays c.args.dev.now) c.requires.settled c.apply_pairs.ensures.quiet) c.fence.ensures.step

pub returns-clause-made : goal.returns-clause-made
returns-clause-made g c = makes_step c.fence.result (open_made c.open_place-from.ensures c.requires.record c.apply_pairs.ensures.made) c.fence.ensures.step tt

pub returns-in_err-apply_pairs-clause-reads : goal.returns-in_err-apply_pairs-clause-reads
returns-in_err-apply_pairs-clause-reads g c =
    some_settles c.open_place-from.ensures c.requires.record (g.D.Pm.words c.apply_pairs.new.dev) c.in_err-apply_pairs.ensures.err

pub returns-clause-reads : goal.returns-clause-reads
returns-clause-reads g c =
    subst (SettlesTo (g.D.Pm.words c.args.dev.now)) (sym c.fence.ensures.words)
    (some_settles c.open_place-from.ensures c.requires.record (g.D.Pm.words c.apply_pairs.new.dev) (c.open_place-from.result.count, omega arith, c.in_ok-apply_pairs.ensures.words))

pub returns-in_err-apply_pairs-clause-lawful : goal.returns-in_err-apply_pairs-clause-lawful
returns-in_err-apply_pairs-clause-lawful g c =
    applying_lawful c.open_place-from.ensures c.requires.record (g.met.D.Pm.replays c.args.dev.now) c.requires.settled c.apply_pairs.ensures.quiet

pub returns-clause-lawful : goal.returns-clause-lawful
returns-clause-lawful g c =
    fenced (applying_lawful c.open_place-from.ensures c.requires.record (g.met.D.Pm.replays c.args.dev.now) c.requires.settled c.apply_pairs.ensures.quiet) c.fence.ensures.step

pub returns-in_err-apply_pairs-clause-reads_lawful : goal.returns-in_err-apply_pairs-clause-reads_lawful
returns-in_err-apply_pairs-clause-reads_lawful g c =
    some_lawful c.open_place-from.ensures c.requires.record (g.D.Pm.words c.apply_pairs.new.dev) c.in_err-apply_pairs.ensures.err

pub returns-clause-reads_lawful : goal.returns-clause-reads_lawful
returns-clause-reads_lawful g c =
    subst (HasFewPairs (slice_index (g.D.Pm.words c.args.dev.now) 512)) (sym c.fence.ensures.words)
    (some_lawful c.open_place-from.ensures c.requires.record (g.D.Pm.words c.apply_pairs.new.dev) (c.open_place-from.result.count, omega arith, c.in_ok-apply_pairs.ensures.words))

pub returns-in_err-apply_pairs-clause-opens : goal.returns-in_err-apply_pairs-clause-opens
returns-in_err-apply_pairs-clause-opens g c =
    applying_opens c.open_place-from.ensures c.requires.record (g.met.D.Pm.replays c.args.dev.now) c.requires.settled c.apply_pairs.ensures.quiet

pub returns-clause-opens : goal.returns-clause-opens
returns-clause-opens g c =
    fenced (applying_opens c.open_place-from.ensures c.requires.record (g.met.D.Pm.replays c.args.dev.now) c.requires.settled c.apply_pairs.ensures.quiet) c.fence.ensures.step

pub returns-in_err-apply_pairs-clause-reads_opens : goal.returns-in_err-apply_pairs-clause-reads_opens
returns-in_err-apply_pairs-clause-reads_opens g c =
    some_opens c.open_place-from.ensures c.requires.record (g.D.Pm.words c.apply_pairs.new.dev) c.in_err-apply_pairs.ensures.err

pub returns-clause-reads_opens : goal.returns-clause-reads_opens
returns-clause-reads_opens g c =
    subst (OpensOnly (open_pairs (g.D.Pm.words c.args.dev.now))) (sym c.fence.ensures.words)
    (some_opens c.open_place-from.ensures c.requires.record (g.D.Pm.words c.apply_pairs.new.dev) (c.open_place-from.result.count, omega arith, c.in_ok-apply_pairs.ensures.words))

pub returns-in_err-apply_pairs-clause-in_line : goal.returns-in_err-apply_pairs-clause-in_line
returns-in_err-apply_pairs-clause-in_line g c = apply_line c.open_place-from.ensures c.requires.record c.apply_pairs.ensures.made

pub returns-clause-in_line : goal.returns-clause-in_line
returns-clause-in_line g c = makes_step c.fence.result (apply_line c.open_place-from.ensures c.requires.record c.apply_pairs.ensures.made) c.fence.ensures.step tt
