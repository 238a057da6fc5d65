use Rattle.std.proofs.Common.{ap, ◌∙◌}
use Rattle.ct_base.specs.Walk.{next}
use Rattle.ct_walk.specs.Pages.{some_page}
use Rattle.ct_walk.proofs.Entries.{child_table}
use Rattle.ct_walk.proofs.steps.Table+2.child.Goals as goal

pub returns-clause-table : goal.returns-clause-table
returns-clause-table g c =
    child_table _ _ _ _ _ c.requires.table c.requires.index
    (c.in_ok-page.ensures.exact ∙ ap (λ p. some_page (next (g.D.Pm.words c.args.dev.now) p c.args.i)) c.self.view_is)
