use Rattle.std.proofs.Common.{take, ◌≤◌}
use Rattle.std.specs.List.{flat_map}
use Rattle.std.specs.Io.KnownBytes.{Appends}
use Rattle.ct_script.proofs.reply.put_parts.Given as goal

abbrev pub invariant-loop-part : goal.invariant-loop-part
invariant-loop-part g l = record {
  bytes : Appends (g.O.Sink.written l.fn.out) (g.O.Sink.written l.out) (flat_map (λ part. part.now) (take l.part-index l.parts));
  later : g.O.Sink.faults l.fn.out ≤ g.O.Sink.faults l.out;
}
