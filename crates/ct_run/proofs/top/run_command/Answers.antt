use Rattle.std.proofs.Common.{Option, subst, sym}
use Rattle.ct_run.proofs.Carried.{runs_usage}
use Rattle.ct_run.specs.Carried.{RunsAs, streams}
use Rattle.ct_run.specs.Opened.{devices}
use Rattle.ct_run.specs.Words.{AreWithin}
use Rattle.ct_run.specs.declared.command.Command.{Command}
use Rattle.ct_run.specs.declared.status.Status.TheVariants.{Usage}
use Rattle.ct_shell.specs.Moments.{moment}
use Rattle.ct_run.proofs.top.run_command.Goals as goal

pub carry_out-requires-clause-fits : goal.carry_out-requires-clause-fits
carry_out-requires-clause-fits g c = subst AreWithin c.in-Some.is c.requires.fits

pub returns-in-Some : goal.returns-in-Some
returns-in-Some g c =
    let dev = c.args.dev in
    let dev' = c.carry_out.result.dev in
    subst (λ (o : Option Command). RunsAs o c.carry_out.result.status
    (devices dev dev' (moment (g.D.Pm.told dev) (g.D.Pm.words dev)) (moment (g.D.Pm.told dev') (g.D.Pm.words dev')) (g.D.Pm.page_count dev) (g.D.Pm.faults dev) (g.D.Pm.faults dev'))
    (streams c.args.input.now c.carry_out.new.input c.args.out.now c.carry_out.new.out (g.S.Source.rest c.args.input.now) (g.S.Source.rest c.carry_out.new.input) (g.O.Sink.written c.args.out.now) (g.O.Sink.written c.carry_out.new.out)
    (g.S.Source.faults c.args.input.now) (g.S.Source.faults c.carry_out.new.input) (g.O.Sink.faults c.args.out.now) (g.O.Sink.faults c.carry_out.new.out))) (sym c.in-Some.is) c.carry_out.ensures

pub returns-in-None : goal.returns-in-None
returns-in-None g c =
    let dev = c.args.dev in
    let input = c.args.input.now in
    let out = c.args.out.now in
    let from = moment (g.D.Pm.told dev) (g.D.Pm.words dev) in
    let pages = g.D.Pm.page_count dev in
    let faults = g.D.Pm.faults dev in
    let rest = g.S.Source.rest input in
    let old = g.O.Sink.written out in
    let source = g.S.Source.faults input in
    let sink = g.O.Sink.faults out in
    subst (λ (o : Option Command). RunsAs o Usage (devices dev dev from from pages faults faults) (streams input input out out rest rest old old source source sink sink)) (sym c.in-None.is) (runs_usage dev from pages faults input out rest old source sink)
