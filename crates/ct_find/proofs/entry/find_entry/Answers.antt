use Rattle.std.proofs.Common.{subst}
use Rattle.ct_find.proofs.Spotting.{entry_gone, no_entry}
use Rattle.ct_find.specs.Places.{ShowsPlace}
use Rattle.ct_find.proofs.entry.find_entry.Goals as goal

pub returns-in-Err-clause-answer : goal.returns-in-Err-clause-answer
returns-in-Err-clause-answer g c t st = no_entry c.args.path.now c.requires.below t (c.in-Err.ensures.answer t st)

pub returns-in-Free-clause-answer : goal.returns-in-Free-clause-answer
returns-in-Free-clause-answer g c t st =
    entry_gone c.args.path.now c.requires.below t (c.in-Ok.ensures.answer t st) (subst (ShowsPlace (g.D.Pm.words c.args.dev.now) c.args.path.now t) c.in-Free.is (c.in-Ok.ensures.node t st))
