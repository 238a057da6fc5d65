use Rattle.std.proofs.Common.{subst, sym}
use Rattle.ct_call.specs.Seen.{faults_in}
use Rattle.ct_run.specs.Carried.{WorksAs, streams}
use Rattle.ct_run.specs.Ways.{script}
use Rattle.ct_run.proofs.Scripts.{works_streams}
use Rattle.ct_shell.specs.Moments.{moment_in}
use Rattle.ct_run.proofs.serving.serve_all.Goals as goal

pub returns : goal.returns
returns g c =
    let from = c.args.fs.now.state in
    let to = c.serve_lines.new.fs.state in
    let rest = g.S.Source.rest c.args.input.now in
    let rest' = g.S.Source.rest c.serve_lines.new.input in
    let read = g.S.Source.faults c.args.input.now in
    let read' = g.S.Source.faults c.serve_lines.new.input in
    let old = g.O.Sink.written c.args.out.now in
    let new = g.O.Sink.written c.serve_lines.new.out in
    let sunk = g.O.Sink.faults c.args.out.now in
    let sunk' = g.O.Sink.faults c.serve_lines.new.out in
    let e = c.serve_lines.ensures in
    subst (λ s. WorksAs script s from (moment_in to) (faults_in to) (streams c.args.input.now c.serve_lines.new.input c.args.out.now c.serve_lines.new.out rest rest' old new read read' sunk sunk')) (sym c.stream_status.ensures)
    (works_streams c.serve_lines.result from to c.requires.stands c.args.input.now c.serve_lines.new.input c.args.out.now c.serve_lines.new.out rest rest' old new read read' sunk sunk' e.serves e.input_fault e.output_fault)
