use Rattle.std.specs.Prelude.{codes}
use Rattle.ct_dump.specs.Dumped.{head, number_text}
use Rattle.ct_script.specs.Texts.{line_of}
use Rattle.ct_script.proofs.Puts.{fault_first, put_second}
use Rattle.ct_dump.proofs.lines.put_size.Goals as goal

pub returns-in-Ok-clause-bytes : goal.returns-in-Ok-clause-bytes
returns-in-Ok-clause-bytes g c =
    put_second c.put_number_line.result (g.O.Sink.written c.args.out.now) (g.O.Sink.written c.put_head.new.out) (g.O.Sink.written c.put_number_line.new.out) (head (codes "truncate ") c.args.path.now) (line_of (number_text c.args.size)) c.in-Ok.ensures.bytes c.put_number_line.ensures.bytes

pub returns-in-Err-clause-bytes : goal.returns-in-Err-clause-bytes
returns-in-Err-clause-bytes g c =
    fault_first (g.O.Sink.written c.args.out.now) (g.O.Sink.written c.put_head.new.out) (head (codes "truncate ") c.args.path.now) (line_of (number_text c.args.size)) c.in-Err.ensures.bytes
