use Rattle.std.proofs.Common.{arith}
use Rattle.ct_check.proofs.Entries.{entry_zero, entry_good, entry_bad}
use Rattle.ct_check.proofs.level.entry_of.Goals as goal
use Rattle.ct_check.proofs.level.entry_of.Goals.{else-entry-eq1-via-then-entry-eq1+then-page-ge-FIRST_PAGE+else-page-pages, else-entry-eq1-via-then-entry-eq1+else-page-ge-FIRST_PAGE, else-entry-eq1-via-else-entry-eq1}

pub returns-then-entry-eq0-clause-some : goal.returns-then-entry-eq0-clause-some
returns-then-entry-eq0-clause-some g c = entry_zero (g.D.Pm.words c.args.dev.now) c.args.table c.args.i c.load-entry.result c.requires.table c.load-entry.ensures c.if-entry-eq0.true

pub returns-then-page-pages-clause-some : goal.returns-then-page-pages-clause-some
returns-then-page-pages-clause-some g c =
    entry_good (g.D.Pm.words c.args.dev.now) c.args.table c.args.i c.load-entry.result c.requires.table c.load-entry.ensures c.if-entry-eq1.true (omega arith) (omega (arith, c.requires.pages))

pub returns-clause-none : goal.returns-clause-none
returns-clause-none g c = entry_bad (g.D.Pm.words c.args.dev.now) c.args.table c.args.i c.load-entry.result c.requires.table c.load-entry.ensures c.if-entry-eq0.false (λ form low high. elim c.else-entry-eq1.branch [
  | else-entry-eq1-via-then-entry-eq1+then-page-ge-FIRST_PAGE+else-page-pages w ↦ omega (arith, c.requires.pages)
  | else-entry-eq1-via-then-entry-eq1+else-page-ge-FIRST_PAGE w ↦ omega arith
  | else-entry-eq1-via-else-entry-eq1 w ↦ absurd (w.if-entry-eq1.false form)
])
