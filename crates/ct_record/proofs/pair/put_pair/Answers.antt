use Rattle.std.proofs.Common.{◌≡◌, length, ap, ◌∙◌, arith}
use Rattle.std.proofs.Math.ListN.{length-set}
use Rattle.ct_pm.proofs.Made.{makes_none, makes_step}
use Rattle.ct_pm.specs.Device.{IsIn}
use Rattle.ct_record.proofs.Moments.{two_stores_quiet}
use Rattle.ct_record.proofs.pair.put_pair.Goals as goal

pub returns-clause-quiet : goal.returns-clause-quiet
returns-clause-quiet g c =
    let was = g.D.Pm.words c.args.dev.now in
    let size : length (g.D.Pm.words c.store.new.self) ≡ length was = ap length c.in_ok-store.ensures.words ∙ length-set was c.args.at c.args.word in
    two_stores_quiet (IsIn c.args.at 2) was (g.D.Pm.words c.store.new.self) (g.met.D.Pm.replays c.args.dev.now) (g.met.D.Pm.replays c.store.new.self)
    (omega (arith, c.requires)) (omega (arith, c.requires)) (omega arith, omega arith) (omega arith, omega arith) c.in_ok-store.ensures.step c.store-2.ensures.step

pub returns-clause-made : goal.returns-clause-made
returns-clause-made g c =
    makes_step c.store-2.result (makes_step c.store.result (makes_none (λ word value. IsIn c.args.at 2 word) (g.D.Pm.told c.args.dev.now)) c.store.ensures.step (omega arith, omega arith))
    c.store-2.ensures.step (omega arith, omega arith)
