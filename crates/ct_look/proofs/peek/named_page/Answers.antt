use Rattle.std.proofs.Common.{◌/◌, sym, ap, ◌∙◌, arith}
use Rattle.ct_walk.specs.Pages.{some_page}
use Rattle.ct_walk.proofs.Entries.{some_page-there}
use Rattle.ct_look.proofs.Peeking.{named_some, named_none}
use Rattle.ct_look.proofs.peek.named_page.Goals as goal
use Rattle.ct_look.proofs.peek.named_page.Goals.{else-entry-eq1-via-then-entry-eq1+then-page-gt-ROOT_PAGE+else-page-pages, else-entry-eq1-via-then-entry-eq1+else-page-gt-ROOT_PAGE, else-entry-eq1-via-else-entry-eq1}

pub returns-then-page-pages-clause-page : goal.returns-then-page-pages-clause-page
returns-then-page-pages-clause-page c =
    sym (ap some_page (named_some c.args.pages c.args.entry c.if-entry-eq1.true (omega arith) c.if-page-pages.true) ∙ some_page-there (c.args.entry / 4096) (λ none. omega arith))

pub returns-else-entry-eq1-clause-page : goal.returns-else-entry-eq1-clause-page
returns-else-entry-eq1-clause-page c = sym (ap some_page (named_none c.args.pages c.args.entry (λ form low high. elim c.else-entry-eq1.branch [
  | else-entry-eq1-via-then-entry-eq1+then-page-gt-ROOT_PAGE+else-page-pages w ↦ omega arith
  | else-entry-eq1-via-then-entry-eq1+else-page-gt-ROOT_PAGE w ↦ omega arith
  | else-entry-eq1-via-else-entry-eq1 w ↦ w.if-entry-eq1.false form
])))
