use Rattle.std.proofs.Common.{[], ◌∷◌, ◌++◌}
use Rattle.std.specs.Prelude.{codes}
use Rattle.hex.specs.Hex.{encode_lower}
use Rattle.ct_script.proofs.Puts.{fault_first, fault_after, put_second}
use Rattle.ct_script.proofs.reply.put_bytes.Goals as goal

pub returns-in-Err-clause-bytes : goal.returns-in-Err-clause-bytes
returns-in-Err-clause-bytes g c =
    fault_first (g.O.Sink.written c.args.out.now) (g.O.Sink.written c.put.new.self) (codes "data ") (encode_lower c.args.bytes.now ++ 10 ∷ []) c.in-Err.ensures.bytes

pub returns-in-Err-put_digits-clause-bytes : goal.returns-in-Err-put_digits-clause-bytes
returns-in-Err-put_digits-clause-bytes g c =
    fault_after (g.O.Sink.written c.args.out.now) (g.O.Sink.written c.put.new.self) (g.O.Sink.written c.put_digits.new.out) (codes "data ") (encode_lower c.args.bytes.now) (10 ∷ []) c.in-Ok.ensures.bytes c.in-Err-put_digits.ensures.bytes

pub returns-clause-bytes : goal.returns-clause-bytes
returns-clause-bytes g c =
    put_second c.put-2.result (g.O.Sink.written c.args.out.now) (g.O.Sink.written c.put.new.self) (g.O.Sink.written c.put-2.new.self) (codes "data ") (encode_lower c.args.bytes.now ++ 10 ∷ []) c.in-Ok.ensures.bytes
    (put_second c.put-2.result (g.O.Sink.written c.put.new.self) (g.O.Sink.written c.put_digits.new.out) (g.O.Sink.written c.put-2.new.self) (encode_lower c.args.bytes.now) (10 ∷ []) c.in-Ok-put_digits.ensures.bytes c.put-2.ensures.bytes)
