use Rattle.std.proofs.Common.{Some, subst, sym}
use Rattle.ct_run.proofs.Carried.{runs_over, runs_short, runs_some, runs_unopened}
use Rattle.ct_run.specs.Carried.{LeavesBy, RunsAs, WorksAs, streams}
use Rattle.ct_run.specs.Ends.{status_of}
use Rattle.ct_run.specs.Opened.{Opened, Unopened, devices}
use Rattle.ct_run.specs.Ways.{IsScript, IsWithinWay, IsWithinWork, Work}
use Rattle.ct_run.specs.Words.{way_of, work_of}
use Rattle.ct_run.specs.declared.status.Status.TheVariants.{NoMemory}
use Rattle.ct_run.specs.declared.opening.Way.{Way}
use Rattle.ct_shell.specs.Moments.{moment}
use Rattle.ct_run.proofs.top.carry_out.Goals as goal

pub open-requires-clause-fits : goal.open-requires-clause-fits
open-requires-clause-fits g c = subst IsWithinWay (sym c.way.ensures) c.requires.fits.0

pub finish-requires-clause-memory : goal.finish-requires-clause-memory
finish-requires-clause-memory g c = c.in-Ok.ensures.memory

pub finish-requires-clause-fits : goal.finish-requires-clause-fits
finish-requires-clause-fits g c = subst IsWithinWork (sym c.in-Ok.ensures.work) c.requires.fits.1

pub finish-requires-clause-stands : goal.finish-requires-clause-stands
finish-requires-clause-stands g c = let opened = c.in-Ok-open.ensures in (_, (opened.some.0, opened.keeps opened.some.0 opened.some.1))

pub returns-in-Err : goal.returns-in-Err
returns-in-Err g c =
    let dev = c.args.dev in
    let input = c.args.input.now in
    let out = c.args.out.now in
    let from = moment (g.D.Pm.told dev) (g.D.Pm.words dev) in
    let pages = g.D.Pm.page_count dev in
    let faults = g.D.Pm.faults dev in
    let rest = g.S.Source.rest input in
    let old = g.O.Sink.written out in
    let source = g.S.Source.faults input in
    let sink = g.O.Sink.faults out in
    runs_some c.args.command NoMemory (devices dev dev from from pages faults faults) (streams input input out out rest rest old old source source sink sink) (runs_short dev from pages faults input out rest old source sink (way_of c.args.command) (IsScript (work_of c.args.command)) _)

pub returns-in-Ok-open : goal.returns-in-Ok-open
returns-in-Ok-open g c =
    let dev = c.args.dev in
    let dev' = c.finish.result.dev in
    let status = c.finish.result.status in
    let state = c.in-Ok-open.fs.state in
    let from = moment (g.D.Pm.told dev) (g.D.Pm.words dev) in
    let to = moment (g.D.Pm.told dev') (g.D.Pm.words dev') in
    let d = devices dev dev' from to (g.D.Pm.page_count dev) (g.D.Pm.faults dev) (g.D.Pm.faults dev') in
    let s = streams c.args.input.now c.finish.new.input c.args.out.now c.finish.new.out (g.S.Source.rest c.args.input.now) (g.S.Source.rest c.finish.new.input) (g.O.Sink.written c.args.out.now) (g.O.Sink.written c.finish.new.out)
    (g.S.Source.faults c.args.input.now) (g.S.Source.faults c.finish.new.input) (g.O.Sink.faults c.args.out.now) (g.O.Sink.faults c.finish.new.out) in
    let k = c.args.command in
    runs_some k status d s
    (runs_over (way_of k) (IsScript (work_of k)) (λ n t begin. LeavesBy (work_of k) n t status s begin to) status d s state g.met.D.Pm.replays (subst (λ (w : Way). Opened w (g.D.Pm.page_count dev) (g.D.Pm.faults dev) from state) c.way.ensures c.in-Ok-open.ensures)
    (subst (λ (w : Work). WorksAs w status state to (g.D.Pm.faults dev') s) c.in-Ok.ensures.work c.finish.ensures))

pub returns-in-Err-open : goal.returns-in-Err-open
returns-in-Err-open g c =
    let dev = c.args.dev in
    let no = c.in-Err-open.no_mount in
    let input = c.args.input.now in
    let out = c.args.out.now in
    let from = moment (g.D.Pm.told dev) (g.D.Pm.words dev) in
    let pages = g.D.Pm.page_count dev in
    let faults = g.D.Pm.faults dev in
    let rest = g.S.Source.rest input in
    let old = g.O.Sink.written out in
    let source = g.S.Source.faults input in
    let sink = g.O.Sink.faults out in
    let d = devices dev no.dev from (moment (g.D.Pm.told no.dev) (g.D.Pm.words no.dev)) pages faults (g.D.Pm.faults no.dev) in
    let s = streams input input out out rest rest old old source source sink sink in
    let k = c.args.command in
    let unopened = subst (λ (w : Way). Unopened w no.why d) c.way.ensures c.in-Err-open.ensures in
    subst (λ x. RunsAs (Some c.args.command) c.refused.result.status (devices dev x from (moment (g.D.Pm.told x) (g.D.Pm.words x)) pages faults (g.D.Pm.faults x)) s) (sym c.refused.ensures.dev)
    (subst (λ status. RunsAs (Some c.args.command) status d s) (sym c.refused.ensures.status) (runs_some k (status_of no.why) d s (runs_unopened (way_of k) (IsScript (work_of k)) (λ n t begin. LeavesBy (work_of k) n t (status_of no.why) s begin d.to) no.why d input out rest old source sink unopened)))
