use Rattle.std.proofs.Common.{subst, sym}
use Rattle.ct_call.specs.Seen.{faults_in}
use Rattle.ct_run.specs.Carried.{HasMemory, WorksAs, streams, work_in}
use Rattle.ct_run.specs.Ways.{IsWithinWork}
use Rattle.ct_run.specs.declared.job.Job.{Job}
use Rattle.ct_run.specs.declared.status.Status.TheVariants.{Done}
use Rattle.ct_run.proofs.Works.{works_calls, works_nothing}
use Rattle.ct_run.proofs.Written.{works_dump}
use Rattle.ct_shell.specs.Moments.{moment_in}
use Rattle.ct_run.proofs.job.Job.work.Goals as goal

pub serve_all-requires-clause-unasked : goal.serve_all-requires-clause-unasked
serve_all-requires-clause-unasked g c = subst HasMemory c.in-Script.is c.requires.memory

pub work_and_tell-requires-clause-few : goal.work_and_tell-requires-clause-few
work_and_tell-requires-clause-few g c = subst (λ (j : Job). IsWithinWork (work_in j)) c.in-Calls.is c.requires.fits

pub work_and_tell-requires-clause-page : goal.work_and_tell-requires-clause-page
work_and_tell-requires-clause-page g c = subst HasMemory c.in-Calls.is c.requires.memory

pub returns-in-Script : goal.returns-in-Script
returns-in-Script g c =
    subst (λ (j : Job). WorksAs (work_in j) c.serve_all.result c.args.fs.now.state (moment_in c.serve_all.new.fs.state) (faults_in c.serve_all.new.fs.state)
    (streams c.args.input.now c.serve_all.new.input c.args.out.now c.serve_all.new.out (g.S.Source.rest c.args.input.now) (g.S.Source.rest c.serve_all.new.input) (g.O.Sink.written c.args.out.now) (g.O.Sink.written c.serve_all.new.out)
    (g.S.Source.faults c.args.input.now) (g.S.Source.faults c.serve_all.new.input) (g.O.Sink.faults c.args.out.now) (g.O.Sink.faults c.serve_all.new.out))) (sym c.in-Script.is) c.serve_all.ensures

pub returns-in-Nothing : goal.returns-in-Nothing
returns-in-Nothing g c =
    let state = c.args.fs.now.state in
    let input = c.args.input.now in
    let out = c.args.out.now in
    let rest = g.S.Source.rest input in
    let old = g.O.Sink.written out in
    let source = g.S.Source.faults input in
    let sink = g.O.Sink.faults out in
    subst (λ (j : Job). WorksAs (work_in j) Done state (moment_in state) (faults_in state) (streams input input out out rest rest old old source source sink sink)) (sym c.in-Nothing.is) (works_nothing state input out rest old source sink)

pub returns-in-Calls : goal.returns-in-Calls
returns-in-Calls g c =
    let from = c.args.fs.now.state in
    let to = c.work_and_tell.new.fs.state in
    let input = c.args.input.now in
    let out = c.args.out.now in
    let out' = c.work_and_tell.new.out in
    let rest = g.S.Source.rest input in
    let old = g.O.Sink.written out in
    let new = g.O.Sink.written out' in
    let source = g.S.Source.faults input in
    let sink = g.O.Sink.faults out in
    let sink' = g.O.Sink.faults out' in
    let e = c.work_and_tell.ensures in
    subst (λ (j : Job). WorksAs (work_in j) c.work_and_tell.result from (moment_in to) (faults_in to) (streams input input out out' rest rest old new source source sink sink')) (sym c.in-Calls.is)
    (works_calls c.in-Calls.number c.in-Calls.count c.work_and_tell.result from (moment_in to) (faults_in to) c.requires.stands input out out' rest old new source sink sink' e.served e.leaves e.later e.device_fault e.write_fault)

pub returns-in-Dump : goal.returns-in-Dump
returns-in-Dump g c =
    let state = c.args.fs.now.state in
    let input = c.args.input.now in
    let out = c.args.out.now in
    let out' = c.dump_tree.new.out in
    let rest = g.S.Source.rest input in
    let old = g.O.Sink.written out in
    let new = g.O.Sink.written out' in
    let source = g.S.Source.faults input in
    let sink = g.O.Sink.faults out in
    let sink' = g.O.Sink.faults out' in
    let e = c.dump_tree.ensures in
    subst (λ (j : Job). WorksAs (work_in j) c.dump_tree.result state (moment_in state) (faults_in state) (streams input input out out' rest rest old new source source sink sink')) (sym c.in-Dump.is)
    (works_dump c.dump_tree.result state c.requires.stands input out out' rest old new source sink sink' e.served e.wrote e.write_fault)
