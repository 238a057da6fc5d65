use Rattle.std.proofs.Common.{refl, take}
use Rattle.ct_run.proofs.Works.{worked}
use Rattle.ct_run.specs.Workloads.{IsFront, IsWhole}
use Rattle.ct_tally.specs.Tallies.{tally_line}
use Rattle.ct_tally.specs.Tried.{workload}
use Rattle.ct_run.proofs.working.work_and_tell.Goals as goal

pub returns-in-Ok-put_tally-clause-leaves : goal.returns-in-Ok-put_tally-clause-leaves
returns-in-Ok-put_tally-clause-leaves g c n t keeps =
    worked n t (workload c.args.number c.args.count) c.args.fs.now.state c.work.new.fs.state g.met.D.Pm.replays c.in-Ok.tally (g.O.Sink.written c.args.out.now) (g.O.Sink.written c.put_tally.new.out) IsWhole (tally_line c.in-Ok.tally)
    (c.in-Ok.ensures n t keeps).whole refl c.in-Ok-put_tally.ensures.bytes

pub returns-in-Err-put_tally-clause-leaves : goal.returns-in-Err-put_tally-clause-leaves
returns-in-Err-put_tally-clause-leaves g c n t keeps =
    let part = c.in-Err-put_tally.ensures.bytes in
    worked n t (workload c.args.number c.args.count) c.args.fs.now.state c.work.new.fs.state g.met.D.Pm.replays c.in-Ok.tally (g.O.Sink.written c.args.out.now) (g.O.Sink.written c.put_tally.new.out) IsFront (take part.0 (tally_line c.in-Ok.tally))
    (c.in-Ok.ensures n t keeps).whole (part.0, refl) part.1

pub returns-in-Err-clause-leaves : goal.returns-in-Err-clause-leaves
returns-in-Err-clause-leaves g c n t keeps = ((c.in-Err.ensures n t keeps).halted, refl {a = c.args.out.now})
