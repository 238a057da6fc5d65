use Rattle.std.proofs.Common.{arith, subst}
use Rattle.ct_base.specs.Bytes.{PutAppends}
use Rattle.ct_script.proofs.reply.put_piece.Goals as goal

pub overflow_mul-buffer : goal.overflow_mul-buffer
overflow_mul-buffer g c = let few = c.requires in omega (arith, few)

pub slice_bounds-buffer-end : goal.slice_bounds-buffer-end
slice_bounds-buffer-end g c = let few = c.requires in omega (arith, few)

pub returns-clause-bytes : goal.returns-clause-bytes
returns-clause-bytes g c = subst (PutAppends (g.O.Sink.written c.args.out.now) (g.O.Sink.written c.put.new.self) c.put.result) c.in-Ok.ensures.written c.put.ensures.bytes

pub returns-clause-cause : goal.returns-clause-cause
returns-clause-cause g c = c.put.ensures.cause
