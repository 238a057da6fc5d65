use Rattle.std.proofs.Common.{subst, sym}
use Rattle.ct_call.specs.Seen.{faults_in}
use Rattle.ct_run.specs.Carried.{WorksAs, streams, work_in}
use Rattle.ct_shell.proofs.Kept.{device_faults, device_moment}
use Rattle.ct_shell.specs.Moments.{Moment, moment}
use Rattle.ct_run.proofs.job.Job.finish.Goals as goal

pub returns : goal.returns
returns g c =
    let state = c.work-status.new.fs.state in
    let dev = c.unmount.result in
    let s = streams c.args.input.now c.work-status.new.input c.args.out.now c.work-status.new.out (g.S.Source.rest c.args.input.now) (g.S.Source.rest c.work-status.new.input) (g.O.Sink.written c.args.out.now) (g.O.Sink.written c.work-status.new.out)
    (g.S.Source.faults c.args.input.now) (g.S.Source.faults c.work-status.new.input) (g.O.Sink.faults c.args.out.now) (g.O.Sink.faults c.work-status.new.out) in
    subst (λ n. WorksAs (work_in c.args.self) c.work-status.result c.args.fs.state (moment (g.D.Pm.told dev) (g.D.Pm.words dev)) n s) (device_faults state dev (sym c.unmount.ensures))
    (subst (λ (m : Moment). WorksAs (work_in c.args.self) c.work-status.result c.args.fs.state m (faults_in state) s) (device_moment state dev (sym c.unmount.ensures)) c.work-status.ensures)
