use Rattle.std.proofs.Common.{◌∙◌, ℕ, refl, subst, take}
use Rattle.std.specs.Io.KnownBytes.{Appends}
use Rattle.ct_tell.specs.Looks.{info}
use Rattle.ct_tell.specs.Texts.{info_text}
use Rattle.ct_tell.specs.Told.{state_status}
use Rattle.ct_tell.proofs.Answering.{torn_told}
use Rattle.ct_tell.proofs.info.put_info.Goals as goal

pub returns-in-Err-clause-ends : goal.returns-in-Err-clause-ends
returns-in-Err-clause-ends g c =
    torn_told info (g.D.Pm.words c.args.image.now) (state_status c.in-Ok.info.state) (info_text c.in-Ok.info) (g.O.Sink.written c.args.out.now) (g.O.Sink.written c.put.new.self)
    (c.in-Ok.info, c.in-Ok.ensures, refl, refl)
    (subst (λ text. (k : ℕ) × Appends (g.O.Sink.written c.args.out.now) (g.O.Sink.written c.put.new.self) (take k text)) (c.as_slice.ensures.value ∙ c.info_text.ensures) c.in-Err.ensures.bytes)
