use Rattle.std.proofs.Common.{[], ◌∷◌}
use Rattle.ct_script.specs.Texts.{line_of}
use Rattle.hex.specs.Hex.{encode_lower}
use Rattle.ct_script.proofs.Puts.{fault_first, put_second}
use Rattle.ct_dump.proofs.lines.put_data.Goals as goal

pub returns-in-Ok-clause-bytes : goal.returns-in-Ok-clause-bytes
returns-in-Ok-clause-bytes g c =
    put_second c.put_digits_line.result (g.O.Sink.written c.args.out.now) (g.O.Sink.written c.put.new.self) (g.O.Sink.written c.put_digits_line.new.out) (32 ∷ []) (line_of (encode_lower c.args.bytes.now)) c.in-Ok.ensures.bytes c.put_digits_line.ensures.bytes

pub returns-in-Err-clause-bytes : goal.returns-in-Err-clause-bytes
returns-in-Err-clause-bytes g c =
    fault_first (g.O.Sink.written c.args.out.now) (g.O.Sink.written c.put.new.self) (32 ∷ []) (line_of (encode_lower c.args.bytes.now)) c.in-Err.ensures.bytes
