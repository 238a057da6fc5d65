use Rattle.std.proofs.Common.{sym, ap}
use Rattle.ct_walk.specs.Pages.{some_page}
use Rattle.ct_look.proofs.Peeking.{no_third, no_second, no_first}
use Rattle.ct_look.proofs.peek.page_of.Goals as goal

pub returns-in_err-third-clause-page : goal.returns-in_err-third-clause-page
returns-in_err-third-clause-page g c =
    let none = no_third (g.D.Pm.words c.args.dev.now) c.args.v c.get-address.result c.get-address.ensures.value c.in_err-third.ensures.page in
    rw c.from_residual.ensures (sym (ap some_page none))

pub returns-in_err-second-clause-page : goal.returns-in_err-second-clause-page
returns-in_err-second-clause-page g c =
    let none = no_second (g.D.Pm.words c.args.dev.now) c.args.v c.get-address.result c.get-address.ensures.value c.in_ok-third.third c.in_ok-third.ensures.page c.in_err-second.ensures.page in
    rw c.from_residual-in_err-second.ensures (sym (ap some_page none))

pub returns-in_err-first-clause-page : goal.returns-in_err-first-clause-page
returns-in_err-first-clause-page g c =
    let none = no_first (g.D.Pm.words c.args.dev.now) c.args.v c.get-address.result c.get-address.ensures.value c.in_ok-third.third c.in_ok-third.ensures.page c.in_ok-second.second c.in_ok-second.ensures.page c.in_err-first.ensures.page in
    rw c.from_residual-in_err-first.ensures (sym (ap some_page none))
