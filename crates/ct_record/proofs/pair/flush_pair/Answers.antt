use Rattle.std.proofs.Common.{◌/◌, ◌⊎◌, ℕ, subst, OnOk}
use Rattle.ct_pm.specs.Device.{WrittenBack}
use Rattle.ct_pm.proofs.Made.{makes_none, makes_step}
use Rattle.ct_pm.proofs.Told.{flushed}
use Rattle.ct_pm.proofs.Quiet.{back_flush, quiet_here}
use Rattle.ct_record.specs.Record.{SharesLine}
use Rattle.ct_record.proofs.Applying.{line_back}
use Rattle.ct_record.proofs.pair.flush_pair.Goals as goal

pub returns-clause-quiet : goal.returns-clause-quiet
returns-clause-quiet g c = flushed (quiet_here (λ _. ⊥) (g.D.Pm.told c.args.dev.now)) c.flush.ensures.step

pub returns-clause-made : goal.returns-clause-made
returns-clause-made g c = makes_step c.flush.result (makes_none (λ at put. ⊥) (g.D.Pm.told c.args.dev.now)) c.flush.ensures.step tt

pub returns-clause-back : goal.returns-clause-back
returns-clause-back g c =
    subst (λ (w : ℕ). OnOk c.flush.result (SharesLine c.args.from c.args.i (g.D.Pm.words c.args.dev.now) ⊎ WrittenBack (g.D.Pm.told c.flush.new.self) (w / 8))) c.load-line.ensures
    (line_back c.flush.result (SharesLine c.args.from c.args.i (g.D.Pm.words c.args.dev.now)) (c.load-line.result / 8) c.flush.ensures.step)

pub returns-clause-still_back : goal.returns-clause-still_back
returns-clause-still_back g c = λ line back. back_flush c.flush.result line c.flush.ensures.step back
