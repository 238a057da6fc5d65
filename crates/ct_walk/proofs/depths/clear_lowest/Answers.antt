use Rattle.std.proofs.Common.{ℕ, List, sym, subst, arith}
use Rattle.ct_pm.specs.Device.{SameOff}
use Rattle.ct_pm.proofs.Made.{makes_step}
use Rattle.ct_pm.proofs.Quiet.{quiet_settled}
use Rattle.ct_pm.proofs.Told.{fenced}
use Rattle.ct_walk.specs.Depths.{without_lowest, IsOnTaken, AreZeros}
use Rattle.ct_walk.proofs.Lowest.{page_free, number_next}
use Rattle.ct_walk.proofs.Clearing.{clearing_start, clearing_step, clearing_end, clearing_settled, same_more, images_more, made_more}
use Rattle.ct_walk.proofs.Zeros.{on_ok_of}
use Rattle.ct_walk.proofs.depths.clear_lowest.Goals as goal

pub loop-init : goal.loop-init
loop-init g c = clearing_start c.args.frames.now (g.D.Pm.words c.args.dev.now) (g.D.Pm.told c.args.dev.now) (g.D.Pm.faults c.args.dev.now)

pub zero_page-requires : goal.zero_page-requires
zero_page-requires g c =
    let next = number_next c.args.frames.now.free c.loop.from c.number-page.result c.in-Some.page c.number-page.ensures c.in-Some.ensures.some in
    omega (arith, (c.lowest_from.ensures.in_range c.number-page.result (page_free c.loop.invariant.reach next)).1, c.requires.agrees.pages, c.requires.tables.there, c.loop.invariant.same.size)

pub returns-in_err-zero_page-clause-low : goal.returns-in_err-zero_page-clause-low
returns-in_err-zero_page-clause-low g c = λ q t. (c.lowest_from.ensures.in_range q t.was).0

pub returns-in_err-zero_page-clause-same : goal.returns-in_err-zero_page-clause-same
returns-in_err-zero_page-clause-same g c =
    same_more c.loop.invariant (number_next c.args.frames.now.free c.loop.from c.number-page.result c.in-Some.page c.number-page.ensures c.in-Some.ensures.some) c.args.count c.loop-test.true c.zero_page.ensures.same

pub returns-in_err-zero_page-clause-images : goal.returns-in_err-zero_page-clause-images
returns-in_err-zero_page-clause-images g c =
    images_more c.loop.invariant (number_next c.args.frames.now.free c.loop.from c.number-page.result c.in-Some.page c.number-page.ensures c.in-Some.ensures.some) c.args.count c.loop-test.true (g.met.D.Pm.replays c.args.dev.now) c.zero_page.ensures.quiet

pub returns-in_err-zero_page-clause-made : goal.returns-in_err-zero_page-clause-made
returns-in_err-zero_page-clause-made g c =
    made_more c.loop.invariant (number_next c.args.frames.now.free c.loop.from c.number-page.result c.in-Some.page c.number-page.ensures c.in-Some.ensures.some) c.args.count c.loop-test.true c.zero_page.ensures.made

pub overflow_add-from : goal.overflow_add-from
overflow_add-from g c =
    let next = number_next c.args.frames.now.free c.loop.from c.number-page.result c.in-Some.page c.number-page.ensures c.in-Some.ensures.some in
    omega (arith, (c.lowest_from.ensures.in_range c.number-page.result (page_free c.loop.invariant.reach next)).1, c.requires.agrees.pages, g.met.D.Pm.words_fit c.args.dev.now 2)

pub loop-preserved : goal.loop-preserved
loop-preserved g c =
    clearing_step c.loop.invariant (number_next c.args.frames.now.free c.loop.from c.number-page.result c.in-Some.page c.number-page.ensures c.in-Some.ensures.some) c.lowest_from.ensures.in_range
    c.in_ok-zero_page.ensures.zeros c.zero_page.ensures.same c.zero_page.ensures.quiet c.in_ok-zero_page.ensures.back c.zero_page.ensures.others c.zero_page.ensures.made c.zero_page.ensures.cause.later

pub returns-clause-zeros : goal.returns-clause-zeros
returns-clause-zeros g c =
    let whole = clearing_end c.loop.invariant (omega arith) in
    on_ok_of c.fence.result (subst (λ (l : List ℕ). AreZeros l c.args.frames.now (without_lowest c.args.count c.args.frames.now)) (sym c.fence.ensures.words) whole.zeros)

pub returns-clause-low : goal.returns-clause-low
returns-clause-low g c = (clearing_end c.loop.invariant (omega arith)).range

pub returns-clause-same : goal.returns-clause-same
returns-clause-same g c =
    let whole = clearing_end c.loop.invariant (omega arith) in
    subst (λ (l : List ℕ). SameOff (IsOnTaken c.args.frames.now (without_lowest c.args.count c.args.frames.now)) l (g.D.Pm.words c.args.dev.now)) (sym c.fence.ensures.words) whole.same

pub returns-clause-images : goal.returns-clause-images
returns-clause-images g c =
    let whole = clearing_end c.loop.invariant (omega arith) in
    λ settled. fenced (quiet_settled (g.met.D.Pm.replays c.args.dev.now) settled whole.quiet) c.fence.ensures.step

pub returns-clause-settled : goal.returns-clause-settled
returns-clause-settled g c =
    clearing_settled c.fence.result c.loop.invariant (g.met.D.Pm.replays c.args.dev.now) (g.met.D.Pm.replays c.loop.dev) c.fence.ensures.step

pub returns-clause-made : goal.returns-clause-made
returns-clause-made g c =
    let whole = clearing_end c.loop.invariant (omega arith) in
    makes_step c.fence.result whole.made c.fence.ensures.step tt
