use Rattle.std.proofs.Common.{[], ◌∷◌}
use Rattle.std.specs.Fmt.{decimal}
use Rattle.ct_script.proofs.Puts.{fault_first, put_second}
use Rattle.ct_dump.proofs.lines.put_number.Goals as goal

pub returns-in-Ok-clause-bytes : goal.returns-in-Ok-clause-bytes
returns-in-Ok-clause-bytes g c =
    put_second c.put_decimal.result (g.O.Sink.written c.args.out.now) (g.O.Sink.written c.put.new.self) (g.O.Sink.written c.put_decimal.new.out) (32 ∷ []) (decimal c.args.number) c.in-Ok.ensures.bytes c.put_decimal.ensures.bytes

pub returns-in-Err-clause-bytes : goal.returns-in-Err-clause-bytes
returns-in-Err-clause-bytes g c =
    fault_first (g.O.Sink.written c.args.out.now) (g.O.Sink.written c.put.new.self) (32 ∷ []) (decimal c.args.number) c.in-Err.ensures.bytes
