use Rattle.std.proofs.Common.{◌≡◌, ◌-◌, ◌/◌, ◌%◌, ◌^◌, ap, sym, ◌∙◌, arith}
use Rattle.ct_base.specs.Walk.{next, page_at}
use Rattle.ct_walk.specs.Pages.{some_page}
use Rattle.ct_walk.proofs.Entries.{page_at-way, page_at-start, some_page-none, some_page-is, ended}
use Rattle.ct_walk.proofs.steps.+table_at.Goals as goal

pub returns-then-depth-eq0-clause-exact : goal.returns-then-depth-eq0-clause-exact
returns-then-depth-eq0-clause-exact g t c =
    sym (ap some_page (page_at-start (g.D.Pm.words c.args.dev.now) c.args.depth c.args.p c.if-depth-eq0.true c.requires.low))

pub returns-in_err-table-clause-exact : goal.returns-in_err-table-clause-exact
returns-in_err-table-clause-exact g t c =
    let w = g.D.Pm.words c.args.dev.now in
    let none : page_at w c.args.depth (c.args.p / 512 ^ (4 - c.args.depth)) ≡ 0 =
    page_at-way w c.args.depth (c.args.depth - 1) c.args.p (omega arith) (omega arith)
    ∙ ended w _ (c.args.p / 512 ^ (4 - c.args.depth) % 512) (some_page-none _ c.in_err-table.ensures.exact) in
    rw c.from_residual.ensures (sym (ap some_page none))

pub returns-clause-exact : goal.returns-clause-exact
returns-clause-exact g t c =
    let w = g.D.Pm.words c.args.dev.now in
    let up = (some_page-is _ _ c.in_ok-table.ensures.exact).0 in
    c.entry_of.ensures.exact
    ∙ ap some_page (
    ap (λ k. next w c.in_ok-table.table (c.args.p / k % 512)) c.pow.ensures
    ∙ ap (λ k. next w k (c.args.p / 512 ^ (4 - c.args.depth) % 512)) (sym up)
    ∙ sym (page_at-way w c.args.depth (c.args.depth - 1) c.args.p (omega arith) (omega arith)))
