use Rattle.std.proofs.Common.{◌≡◌, ◌<◌, ◌≤◌, ℕ, List, subst, length}
use Rattle.std.specs.Prelude.{IfErr, OnOk}
use Rattle.ct_base.specs.Free.{HasFreePages}
use Rattle.ct_base.specs.Wants.{Want, missing}
use Rattle.ct_record.proofs.Drafts.{ok_of}
use Rattle.ct_record.proofs.Ended.{ok_then}
use Rattle.ct_tree.specs.declared.call.Refusal.TheVariants.{NoPages}
use Rattle.ct_call.proofs.Spaced.{answers, barred}
use Rattle.ct_call.proofs.space.check_space.Goals as goal

pub returns-in-Some-clause-answer : goal.returns-in-Some-clause-answer
returns-in-Some-clause-answer g c op p only plans never = barred only plans c.in-Some.level c.in-Some.ensures never

pub returns-clause-answer : goal.returns-clause-answer
returns-clause-answer g c op p only plans never =
    let w = g.D.Pm.words c.args.dev.now in
    let ws = c.as_slice.result.now in
    let free = length c.args.frames.now.free in
    answers only plans c.check_pages.result free c.in-None.ensures never c.check_pages.ensures.counted
    (subst (λ (l : List Want). OnOk c.check_pages.result (missing w l ≤ free)) c.as_slice.ensures c.check_pages.ensures.enough)
    (subst (λ (l : List Want). IfErr c.check_pages.result (λ r. (n : ℕ) × HasFreePages w n × (r ≡ NoPages n (missing w l)) × (n < missing w l))) c.as_slice.ensures c.check_pages.ensures.lacks)

pub returns-clause-fits : goal.returns-clause-fits
returns-clause-fits g c =
    let w = g.D.Pm.words c.args.dev.now in
    ok_then (missing w c.as_slice.result.now ≤ length c.args.frames.now.free) c.check_pages.result
    (λ le. record { opens = c.in-None.ensures; part = c.requires.part; pages = subst (λ (l : List Want). missing w l ≤ length c.args.frames.now.free) c.as_slice.ensures le })
    c.check_pages.ensures.enough

pub returns-clause-counted : goal.returns-clause-counted
returns-clause-counted g c = ok_of c.check_pages.result c.check_pages.ensures.counted
