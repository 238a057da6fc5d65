use Rattle.std.proofs.Common.{◌≡◌, ◌/◌, ap, ◌∙◌, arith}
use Rattle.ct_base.specs.Walk.{page_at}
use Rattle.ct_image.proofs.Steps.{walk-cell}
use Rattle.ct_walk.specs.Pages.{some_page}
use Rattle.ct_stage.proofs.edit.page_of.Goals as goal

pub returns : goal.returns
returns g c =
    let img = g.D.Pm.words c.args.dev.now in
    let v_is : c.in_ok-new.field-0 ≡ c.args.at = c.in_ok-new.ensures.value in
    c.walk.ensures.exact ∙ ap some_page (walk-cell img c.in_ok-new.field-0 (let high = c.requires.high in omega arith) ∙ ap (λ v. page_at img 4 (v / 4096)) v_is)
