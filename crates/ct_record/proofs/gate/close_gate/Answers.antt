use Rattle.std.proofs.Common.{inr, arith}
use Rattle.std.specs.Prelude.{slice_index}
use Rattle.ct_base.specs.Settled.{HasFewPairs, open_pairs}
use Rattle.ct_pm.proofs.Made.{makes_weaker}
use Rattle.ct_pm.proofs.Told.{weaker}
use Rattle.ct_record.specs.Record.{OpensOnly, SettlesTo, StaysInLine, StaysInRecord}
use Rattle.ct_record.proofs.Closing.{shut_long, shut_short, close_lawful, close_moves}
use Rattle.ct_record.proofs.Moments.{either_commit}
use Rattle.ct_record.proofs.Opens.{close_opens}
use Rattle.ct_record.proofs.gate.close_gate.Goals as goal

pub returns-then-load-gt0-clause-any_moment : goal.returns-then-load-gt0-clause-any_moment
returns-then-load-gt0-clause-any_moment g c =
    let was = g.D.Pm.words c.args.dev.now in
    weaker (SettlesTo was) (close_moves 512 was (omega arith, omega arith) (shut_long was c.requires.pages c.requires.record (omega (arith, c.if-load-gt0.true, c.load.ensures))) c.requires.stand) c.commit.ensures.any_moment

pub returns-clause-any_moment : goal.returns-clause-any_moment
returns-clause-any_moment g c =
    let was = g.D.Pm.words c.args.dev.now in
    weaker (SettlesTo was) (close_moves 527 was (omega arith, omega arith) (shut_short was c.requires.pages (omega (arith, c.if-load-gt0.false, c.load.ensures))) c.requires.stand) c.commit-2.ensures.any_moment

pub returns-then-load-gt0-clause-made : goal.returns-then-load-gt0-clause-made
returns-then-load-gt0-clause-made g c = makes_weaker StaysInRecord (λ word value is. (omega (arith, is.0), omega (arith, is.0))) c.commit.ensures.made

pub returns-clause-made : goal.returns-clause-made
returns-clause-made g c = makes_weaker StaysInRecord (λ word value is. (omega (arith, is.0), omega (arith, is.0))) c.commit-2.ensures.made

pub returns-then-load-gt0-clause-reads : goal.returns-then-load-gt0-clause-reads
returns-then-load-gt0-clause-reads g c =
    let was = g.D.Pm.words c.args.dev.now in
    let new = g.D.Pm.words c.commit.new.dev in
    close_moves 512 was (omega arith, omega arith) (shut_long was c.requires.pages c.requires.record (omega (arith, c.if-load-gt0.true, c.load.ensures))) c.requires.stand new
    (either_commit c.commit.result was new 512 0 c.commit.ensures.words c.commit.ensures.err)

pub returns-clause-reads : goal.returns-clause-reads
returns-clause-reads g c =
    let was = g.D.Pm.words c.args.dev.now in
    let new = g.D.Pm.words c.commit-2.new.dev in
    close_moves 527 was (omega arith, omega arith) (shut_short was c.requires.pages (omega (arith, c.if-load-gt0.false, c.load.ensures))) c.requires.stand new
    (either_commit c.commit-2.result was new 527 0 c.commit-2.ensures.words c.commit-2.ensures.err)

pub returns-then-load-gt0-clause-lawful : goal.returns-then-load-gt0-clause-lawful
returns-then-load-gt0-clause-lawful g c =
    let was = g.D.Pm.words c.args.dev.now in
    weaker (HasFewPairs (slice_index was 512)) (close_lawful 512 was c.requires.record (shut_long was c.requires.pages c.requires.record (omega (arith, c.if-load-gt0.true, c.load.ensures)))) c.commit.ensures.any_moment

pub returns-clause-lawful : goal.returns-clause-lawful
returns-clause-lawful g c =
    let was = g.D.Pm.words c.args.dev.now in
    weaker (HasFewPairs (slice_index was 512)) (close_lawful 527 was c.requires.record (shut_short was c.requires.pages (omega (arith, c.if-load-gt0.false, c.load.ensures)))) c.commit-2.ensures.any_moment

pub returns-then-load-gt0-clause-reads_lawful : goal.returns-then-load-gt0-clause-reads_lawful
returns-then-load-gt0-clause-reads_lawful g c =
    let was = g.D.Pm.words c.args.dev.now in
    let new = g.D.Pm.words c.commit.new.dev in
    close_lawful 512 was c.requires.record (shut_long was c.requires.pages c.requires.record (omega (arith, c.if-load-gt0.true, c.load.ensures))) new
    (either_commit c.commit.result was new 512 0 c.commit.ensures.words c.commit.ensures.err)

pub returns-clause-reads_lawful : goal.returns-clause-reads_lawful
returns-clause-reads_lawful g c =
    let was = g.D.Pm.words c.args.dev.now in
    let new = g.D.Pm.words c.commit-2.new.dev in
    close_lawful 527 was c.requires.record (shut_short was c.requires.pages (omega (arith, c.if-load-gt0.false, c.load.ensures))) new
    (either_commit c.commit-2.result was new 527 0 c.commit-2.ensures.words c.commit-2.ensures.err)

pub returns-then-load-gt0-clause-opens : goal.returns-then-load-gt0-clause-opens
returns-then-load-gt0-clause-opens g c =
    let was = g.D.Pm.words c.args.dev.now in
    weaker (OpensOnly (open_pairs was)) (close_opens 512 was (shut_long was c.requires.pages c.requires.record (omega (arith, c.if-load-gt0.true, c.load.ensures)))) c.commit.ensures.any_moment

pub returns-clause-opens : goal.returns-clause-opens
returns-clause-opens g c =
    let was = g.D.Pm.words c.args.dev.now in
    weaker (OpensOnly (open_pairs was)) (close_opens 527 was (shut_short was c.requires.pages (omega (arith, c.if-load-gt0.false, c.load.ensures)))) c.commit-2.ensures.any_moment

pub returns-then-load-gt0-clause-reads_opens : goal.returns-then-load-gt0-clause-reads_opens
returns-then-load-gt0-clause-reads_opens g c =
    let was = g.D.Pm.words c.args.dev.now in
    let new = g.D.Pm.words c.commit.new.dev in
    close_opens 512 was (shut_long was c.requires.pages c.requires.record (omega (arith, c.if-load-gt0.true, c.load.ensures))) new
    (either_commit c.commit.result was new 512 0 c.commit.ensures.words c.commit.ensures.err)

pub returns-clause-reads_opens : goal.returns-clause-reads_opens
returns-clause-reads_opens g c =
    let was = g.D.Pm.words c.args.dev.now in
    let new = g.D.Pm.words c.commit-2.new.dev in
    close_opens 527 was (shut_short was c.requires.pages (omega (arith, c.if-load-gt0.false, c.load.ensures))) new
    (either_commit c.commit-2.result was new 527 0 c.commit-2.ensures.words c.commit-2.ensures.err)

pub returns-clause-in_line : goal.returns-clause-in_line
returns-clause-in_line g c = λ closed. makes_weaker StaysInLine (λ word value is inside. inr is.0) c.commit-2.ensures.made
