use Rattle.std.proofs.Common.{[], ◌∷◌}
use Rattle.std.specs.Prelude.{codes}
use Rattle.ct_dump.specs.Dumped.{head}
use Rattle.ct_script.proofs.Puts.{fault_first, put_second}
use Rattle.ct_dump.proofs.lines.put_mkdir.Goals as goal

pub returns-in-Ok-clause-bytes : goal.returns-in-Ok-clause-bytes
returns-in-Ok-clause-bytes g c =
    put_second c.put.result (g.O.Sink.written c.args.out.now) (g.O.Sink.written c.put_head.new.out) (g.O.Sink.written c.put.new.self) (head (codes "mkdir ") c.args.path.now) (10 ∷ []) c.in-Ok.ensures.bytes c.put.ensures.bytes

pub returns-in-Err-clause-bytes : goal.returns-in-Err-clause-bytes
returns-in-Err-clause-bytes g c =
    fault_first (g.O.Sink.written c.args.out.now) (g.O.Sink.written c.put_head.new.out) (head (codes "mkdir ") c.args.path.now) (10 ∷ []) c.in-Err.ensures.bytes
