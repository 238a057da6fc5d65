use Rattle.ct_script.specs.Texts.{escaped}
use Rattle.ct_script.proofs.Puts.{fault_first, put_second}
use Rattle.ct_dump.proofs.lines.put_head.Goals as goal

pub returns-in-Ok-clause-bytes : goal.returns-in-Ok-clause-bytes
returns-in-Ok-clause-bytes g c =
    put_second c.put_path.result (g.O.Sink.written c.args.out.now) (g.O.Sink.written c.put.new.self) (g.O.Sink.written c.put_path.new.out) (c.args.verb.now) (escaped c.args.path.now) c.in-Ok.ensures.bytes c.put_path.ensures.bytes

pub returns-in-Err-clause-bytes : goal.returns-in-Err-clause-bytes
returns-in-Err-clause-bytes g c =
    fault_first (g.O.Sink.written c.args.out.now) (g.O.Sink.written c.put.new.self) (c.args.verb.now) (escaped c.args.path.now) c.in-Err.ensures.bytes
