use Rattle.std.proofs.Common.{subst}
use Rattle.ct_base.specs.Bytes.{PutAppends}
use Rattle.ct_tree.specs.Checks.{at}
use Rattle.ct_tree.specs.Content.{bytes_in, range}
use Rattle.ct_tree.specs.Step.{read, refusal}
use Rattle.ct_tell.proofs.Pieces.{front_is, never_refused, read_allowed}
use Rattle.ct_tell.proofs.content.put_piece.Goals as goal

pub returns-in-Ok-clause-bytes : goal.returns-in-Ok-clause-bytes
returns-in-Ok-clause-bytes g c t st file =
    let bytes = range (bytes_in (at t c.args.path.now)) c.args.off c.args.len in
    let look = c.in-Ok.ensures.answer t st in
    subst (PutAppends (g.O.Sink.written c.args.out.now) (g.O.Sink.written c.put.new.self) c.put.result) (front_is bytes c.args.buffer.now c.read_at.new.buf c.in-Ok.count look.1) c.put.ensures.bytes

pub returns-in-Err-clause-bytes : goal.returns-in-Err-clause-bytes
returns-in-Err-clause-bytes g c t st file =
    absurd (never_refused (refusal t (read c.args.path.now c.args.off c.args.len)) c.in-Err.field-0 (read_allowed t c.args.path.now c.args.off c.args.len file c.requires.short) (c.in-Err.ensures.answer t st))
