use Rattle.std.proofs.Common.{◌%◌, sym, ap, ◌∙◌}
use Rattle.ct_base.specs.Walk.{byte_in, walk}
use Rattle.ct_walk.proofs.Entries.{some_page-is, some_page-none}
use Rattle.ct_look.proofs.known.byte_by.Goals as goal

pub returns-in-Some : goal.returns-in-Some
returns-in-Some g c =
    let w = g.D.Pm.words c.args.dev.now in
    c.byte_in.ensures ∙ ap (λ p. byte_in w p (c.get.result % 4096)) (sym (some_page-is c.in-Some.page (walk w c.args.v) c.in-Some.ensures.page).0) ∙ ap (λ a. byte_in w (walk w c.args.v) (a % 4096)) c.get.ensures.value

pub returns-in-None : goal.returns-in-None
returns-in-None g c =
    let w = g.D.Pm.words c.args.dev.now in
    sym (ap (λ p. byte_in w p (c.args.v % 4096)) (some_page-none (walk w c.args.v) c.in-None.ensures.page))
