use Rattle.std.proofs.Common.{[], ◌∷◌}
use Rattle.hex.specs.Hex.{encode_lower}
use Rattle.ct_script.proofs.Puts.{fault_first, put_second}
use Rattle.ct_dump.proofs.lines.put_digits_line.Goals as goal

pub returns-in-Ok-clause-bytes : goal.returns-in-Ok-clause-bytes
returns-in-Ok-clause-bytes g c =
    put_second c.put.result (g.O.Sink.written c.args.out.now) (g.O.Sink.written c.put_digits.new.out) (g.O.Sink.written c.put.new.self) (encode_lower c.args.bytes.now) (10 ∷ []) c.in-Ok.ensures.bytes c.put.ensures.bytes

pub returns-in-Err-clause-bytes : goal.returns-in-Err-clause-bytes
returns-in-Err-clause-bytes g c =
    fault_first (g.O.Sink.written c.args.out.now) (g.O.Sink.written c.put_digits.new.out) (encode_lower c.args.bytes.now) (10 ∷ []) c.in-Err.ensures.bytes
