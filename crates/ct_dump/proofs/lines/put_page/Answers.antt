use Rattle.std.proofs.Common.{◌++◌, ◌∷◌}
use Rattle.std.specs.Prelude.{codes}
use Rattle.ct_dump.specs.Dumped.{head, number_text}
use Rattle.ct_script.specs.Texts.{line_of}
use Rattle.hex.specs.Hex.{encode_lower}
use Rattle.ct_script.proofs.Puts.{fault_first, put_second}
use Rattle.ct_dump.proofs.lines.put_page.Goals as goal

pub returns-in-Ok-clause-bytes : goal.returns-in-Ok-clause-bytes
returns-in-Ok-clause-bytes g c =
    put_second c.put_content.result (g.O.Sink.written c.args.out.now) (g.O.Sink.written c.put_head.new.out) (g.O.Sink.written c.put_content.new.out) (head (codes "write ") c.args.path.now) (number_text c.args.off ++ 32 ∷ line_of (encode_lower c.args.bytes.now)) c.in-Ok.ensures.bytes c.put_content.ensures.bytes

pub returns-in-Err-clause-bytes : goal.returns-in-Err-clause-bytes
returns-in-Err-clause-bytes g c =
    fault_first (g.O.Sink.written c.args.out.now) (g.O.Sink.written c.put_head.new.out) (head (codes "write ") c.args.path.now) (number_text c.args.off ++ 32 ∷ line_of (encode_lower c.args.bytes.now)) c.in-Err.ensures.bytes
