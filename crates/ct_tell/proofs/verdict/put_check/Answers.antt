use Rattle.std.proofs.Common.{refl}
use Rattle.ct_tell.specs.Looks.{check}
use Rattle.ct_tell.specs.Texts.{verdict_line}
use Rattle.ct_tell.specs.Told.{verdict_status}
use Rattle.ct_tell.proofs.Answering.{torn_told}
use Rattle.ct_tell.proofs.verdict.put_check.Goals as goal

pub returns-in-Err-clause-ends : goal.returns-in-Err-clause-ends
returns-in-Err-clause-ends g c =
    torn_told check (g.D.Pm.words c.args.image.now) (verdict_status c.in-Ok.verdict) (verdict_line c.in-Ok.verdict) (g.O.Sink.written c.args.out.now) (g.O.Sink.written c.put_verdict.new.out)
    (c.in-Ok.verdict, c.in-Ok.ensures, refl, refl) c.in-Err.ensures.bytes
