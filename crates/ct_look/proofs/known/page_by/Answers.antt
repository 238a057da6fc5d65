use Rattle.std.proofs.Common.{Some, sym, ap, subst, ◌∙◌}
use Rattle.ct_walk.proofs.Entries.{some_page-there}
use Rattle.ct_walk.specs.Pages.{some_page}
use Rattle.ct_look.specs.Looks.{IsOnDevice}
use Rattle.ct_look.proofs.Peeking.{walk_there}
use Rattle.ct_look.proofs.known.page_by.Goals as goal

pub returns-in-Some-clause-page : goal.returns-in-Some-clause-page
returns-in-Some-clause-page g c =
    let known = c.in-Some.ensures (g.D.Pm.words c.args.dev.now) c.requires.known in
    ap Some c.number.ensures ∙ sym (ap some_page known.1 ∙ some_page-there c.in-Some.page known.0)

pub returns-in-Some-clause-there : goal.returns-in-Some-clause-there
returns-in-Some-clause-there g c =
    let known = c.in-Some.ensures (g.D.Pm.words c.args.dev.now) c.requires.known in
    subst (IsOnDevice (g.D.Pm.words c.args.dev.now)) (sym c.number.ensures) (walk_there (g.D.Pm.words c.args.dev.now) (g.met.D.Pm.words_fit c.args.dev.now) c.args.v c.in-Some.page known.0 known.1)
