use Rattle.std.proofs.Common.{ap, ◌∙◌}
use Rattle.ct_walk.specs.Pages.{some_page}
use Rattle.ct_look.proofs.Peeking.{step_is, step_there}
use Rattle.ct_look.proofs.peek.step.Goals as goal

pub returns-clause-page : goal.returns-clause-page
returns-clause-page g c =
    c.named_page.ensures.page ∙ ap some_page (step_is (g.D.Pm.words c.args.dev.now) c.args.table c.args.i c.load.result c.load-2.result c.requires.table.low c.load.ensures c.load-2.ensures)

pub returns-clause-there : goal.returns-clause-there
returns-clause-there g c =
    let w = g.D.Pm.words c.args.dev.now in
    let is = c.named_page.ensures.page ∙ ap some_page (step_is w c.args.table c.args.i c.load.result c.load-2.result c.requires.table.low c.load.ensures c.load-2.ensures) in
    step_there w c.args.table c.args.i c.named_page.result is c.named_page.ensures.small
