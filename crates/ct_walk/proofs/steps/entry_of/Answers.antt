use Rattle.std.proofs.Common.{ap, sym, ◌∙◌, Some, ◌/◌}
use Rattle.ct_base.specs.Walk.{next}
use Rattle.ct_walk.specs.Pages.{some_page}
use Rattle.ct_walk.proofs.Entries.{some_page-there, entry_there, entry_none, entry_some}
use Rattle.ct_walk.proofs.steps.entry_of.Goals as goal

pub load-entry-requires : goal.load-entry-requires
load-entry-requires g c = entry_there _ _ _ c.requires.entries c.requires.table c.requires.index

pub returns-then-entry-eq0-clause-exact : goal.returns-then-entry-eq0-clause-exact
returns-then-entry-eq0-clause-exact g c = sym (ap some_page (entry_none _ _ _ c.requires.table (sym c.load-entry.ensures ∙ c.if-entry-eq0.true)))

pub returns-else-entry-eq0-clause-exact : goal.returns-else-entry-eq0-clause-exact
returns-else-entry-eq0-clause-exact g c =
    let words = g.D.Pm.words c.args.dev.now in
    let found = entry_some words c.args.page c.args.i c.requires.entries c.requires.table c.requires.index (λ none. c.if-entry-eq0.false (c.load-entry.ensures ∙ none)) in
    sym (some_page-there (next words c.args.page c.args.i) found.0 ∙ ap Some (found.1 ∙ ap (λ k. k / 4096) (sym c.load-entry.ensures)))
