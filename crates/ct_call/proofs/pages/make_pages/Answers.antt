use Rattle.ct_frames.specs.Agrees.{Agrees}
use Rattle.ct_pm.specs.Device.{NothingPending}
use Rattle.ct_record.proofs.Ended.{ok_both, ok_then}
use Rattle.ct_call.proofs.Neutral.{grown_alike, grown_rests, grown_unstaged}
use Rattle.ct_call.proofs.Paged.{paged_phase}
use Rattle.ct_call.proofs.pages.make_pages.Goals as goal

pub returns-clause-cells : goal.returns-clause-cells
returns-clause-cells g c = c.ensure_all.ensures.extends.grown.cells

pub returns-clause-rest : goal.returns-clause-rest
returns-clause-rest g c = grown_rests c.requires.mounted.rest c.ensure_all.ensures.extends.grown c.requires.owned

pub returns-clause-alike : goal.returns-clause-alike
returns-clause-alike g c = grown_alike c.requires.mounted.rest c.ensure_all.ensures.extends.grown c.requires.owned

pub returns-clause-phase : goal.returns-clause-phase
returns-clause-phase g c = paged_phase c.requires.mounted.rest c.requires.owned c.requires.off c.requires.mounted.agrees c.requires.mounted.settled c.ensure_all.ensures.extends

pub returns-clause-mounted : goal.returns-clause-mounted
returns-clause-mounted g c =
    let P : Type 0 = NothingPending (g.D.Pm.told c.args.dev.now) → NothingPending (g.D.Pm.told c.ensure_all.new.dev) in
    let A : Type 0 = Agrees (g.D.Pm.words c.ensure_all.new.dev) c.ensure_all.new.frames in
    ok_then (P × A) c.ensure_all.result (λ has. record {
      rest = grown_rests c.requires.mounted.rest c.ensure_all.ensures.extends.grown c.requires.owned;
      unstaged = grown_unstaged c.requires.mounted.rest c.ensure_all.ensures.extends.grown c.requires.owned c.requires.mounted.unstaged;
      settled = has.0 c.requires.mounted.settled;
      agrees = has.1;
    }) (ok_both P A c.ensure_all.result c.ensure_all.ensures.settled c.ensure_all.ensures.agrees)
