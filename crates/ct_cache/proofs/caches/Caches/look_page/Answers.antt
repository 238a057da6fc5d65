use Rattle.std.proofs.Common.{◌/◌, ◌%◌, ap, ◌∙◌}
use Rattle.ct_cache.proofs.Changed.{page_hit, page_miss, page_none}
use Rattle.ct_cache.proofs.caches.Caches.look_page.Goals as goal

pub returns-then-cell-number : goal.returns-then-cell-number
returns-then-cell-number c =
    let here = ap (λ a. a / 4096) c.get-number.ensures.value in
    page_hit c.args.self.now (c.args.v / 4096) _ c.index.result.now c.in-Some.cell (ap (λ k. k % 1024) here) c.index.ensures c.in-Some.is (c.if-cell-number.true ∙ here)

pub returns-else-cell-number : goal.returns-else-cell-number
returns-else-cell-number c =
    let here = ap (λ a. a / 4096) c.get-number.ensures.value in
    page_miss c.args.self.now (c.args.v / 4096) _ c.index.result.now c.in-Some.cell (ap (λ k. k % 1024) here) c.index.ensures c.in-Some.is (λ is. c.if-cell-number.false (is ∙ ap (λ k. k) (Rattle.std.proofs.Common.sym here)))

pub returns-in-None : goal.returns-in-None
returns-in-None c =
    let here = ap (λ a. a / 4096) c.get-number.ensures.value in
    page_none c.args.self.now (c.args.v / 4096) _ c.index.result.now (ap (λ k. k % 1024) here) c.index.ensures c.in-None.is
