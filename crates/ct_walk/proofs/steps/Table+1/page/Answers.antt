use Rattle.std.proofs.Common.{ap, sym, subst, ◌∙◌, ℕ}
use Rattle.ct_base.specs.Walk.{next}
use Rattle.ct_walk.specs.Pages.{some_page, IsTable}
use Rattle.ct_walk.proofs.Entries.{child_table}
use Rattle.ct_walk.proofs.steps.Table+1.page.Goals as goal

pub returns-clause-page : goal.returns-clause-page
returns-clause-page g c =
    subst (λ (p : ℕ). IsTable (g.D.Pm.words c.args.dev.now) 4 p) (sym c.new.ensures)
    (child_table _ _ _ _ _ c.requires.table c.requires.index
    (c.in_ok-page.ensures.exact ∙ ap (λ p. some_page (next (g.D.Pm.words c.args.dev.now) p c.args.i)) c.self.view_is))
