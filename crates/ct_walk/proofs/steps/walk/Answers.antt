use Rattle.std.proofs.Common.{◌≡◌, ℕ, ap, sym, subst}
use Rattle.ct_base.specs.Walk.{index}
use Rattle.ct_base.specs.Walk.{walk as page_of}
use Rattle.ct_image.proofs.Steps.{next-zero}
use Rattle.ct_walk.specs.Pages.{some_page, IsTable}
use Rattle.ct_walk.proofs.Entries.{root_table, some_page-none, some_page-is}
use Rattle.ct_walk.proofs.steps.walk.Goals as goal

pub child-requires-clause-table : goal.child-requires-clause-table
child-requires-clause-table g c = subst (λ (p : ℕ). IsTable (g.D.Pm.words c.args.dev.now) 0 p) (sym c.root.ensures) (root_table _)

pub returns-in_err-third-clause-exact : goal.returns-in_err-third-clause-exact
returns-in_err-third-clause-exact g c =
    let w = g.D.Pm.words c.args.dev.now in
    let v = c.args.v in
    let z = some_page-none _ c.in_err-third.ensures.exact in
    let none : page_of w v ≡ 0 = cc (z, c.root.ensures, c.get-address.ensures.value, next-zero w (index 3 v), next-zero w (index 2 v), next-zero w (index 1 v)) in
    rw c.from_residual.ensures (sym (ap some_page none))

pub returns-in_err-second-clause-exact : goal.returns-in_err-second-clause-exact
returns-in_err-second-clause-exact g c =
    let w = g.D.Pm.words c.args.dev.now in
    let v = c.args.v in
    let third = some_page-is _ _ c.in_ok-third.ensures.exact in
    let z = some_page-none _ c.in_err-second.ensures.exact in
    let none : page_of w v ≡ 0 = cc (z, third.0, c.root.ensures, c.get-address.ensures.value, next-zero w (index 2 v), next-zero w (index 1 v)) in
    rw c.from_residual-in_err-second.ensures (sym (ap some_page none))

pub returns-in_err-first-clause-exact : goal.returns-in_err-first-clause-exact
returns-in_err-first-clause-exact g c =
    let w = g.D.Pm.words c.args.dev.now in
    let v = c.args.v in
    let third = some_page-is _ _ c.in_ok-third.ensures.exact in
    let second = some_page-is _ _ c.in_ok-second.ensures.exact in
    let z = some_page-none _ c.in_err-first.ensures.exact in
    let none : page_of w v ≡ 0 = cc (z, second.0, third.0, c.root.ensures, c.get-address.ensures.value, next-zero w (index 1 v)) in
    rw c.from_residual-in_err-first.ensures (sym (ap some_page none))
