use Rattle.std.proofs.Common.{◌≡◌, ℕ, ◌+◌, ◌-◌, ◌*◌, ◌^◌, ◌<◌, List, length, sym, ap, subst, ◌∙◌, arith}
use Rattle.std.proofs.lemmas.List.{length-set}
use Rattle.ct_pm.proofs.Made.{makes_step}
use Rattle.ct_pm.proofs.Told.{flushed, fenced}
use Rattle.ct_base.specs.Wants.{missing_at}
use Rattle.ct_walk.specs.Growth.{Grown}
use Rattle.ct_walk.specs.Depths.{without_lowest}
use Rattle.ct_walk.specs.Runs.{NoneMissing}
use Rattle.ct_walk.proofs.Cells.{pow_few}
use Rattle.ct_walk.proofs.Lowest.{reach_some, number_next}
use Rattle.ct_walk.proofs.Linking.{ready, at_depth, linking_start, linking_some, linking_step, linking_extends, linking_settled, linking_done, joins_at, images_stored, made_stored, partly_linked, fits}
use Rattle.ct_walk.proofs.Zeros.{on_ok_then}
use Rattle.ct_walk.proofs.depths.link_lowest.Goals as goal

pub loop-init : goal.loop-init
loop-init g c =
    let r = ready c.args.frames.now c.args.count (g.D.Pm.words c.args.dev.now) c.args.wants.now c.args.depth c.requires.below c.requires.deep c.requires.tables c.requires.agrees c.requires.above c.requires.count c.requires.room c.requires.zeros in
    linking_start c.args.frames.now c.args.count (g.D.Pm.words c.args.dev.now) c.args.wants.now (c.args.depth - 1) (g.D.Pm.told c.args.dev.now) (g.D.Pm.faults c.args.dev.now) r (g.met.D.Pm.replays c.args.dev.now)

pub unreachable-requires : goal.unreachable-requires
unreachable-requires g c =
    linking_some c.loop.invariant (at_depth (λ m. c.args.count ≡ missing_at (g.D.Pm.words c.args.dev.now) c.args.wants.now m) c.args.depth c.requires.below c.requires.count) c.loop-test.true
    (at_depth (λ m. NoneMissing (g.D.Pm.words c.loop.dev) c.args.wants.now m c.loop.cell (512 ^ m)) c.args.depth c.requires.below c.in-None.ensures.none)

pub unreachable-requires-in-None-lowest_from : goal.unreachable-requires-in-None-lowest_from
unreachable-requires-in-None-lowest_from g c = let lt = c.loop-test.true in reach_some c.loop.invariant.reach (omega (arith, c.requires.room)) c.in-None-lowest_from.ensures.none

pub overflow_mul-page : goal.overflow_mul-page
overflow_mul-page g c = omega (arith, c.number-page.ensures, c.in-Some-lowest_from.ensures.small)

pub overflow_add-page : goal.overflow_add-page
overflow_add-page g c = omega (arith, c.number-page.ensures, c.in-Some-lowest_from.ensures.small)

pub store-requires : goal.store-requires
store-requires g c =
    let r = ready c.args.frames.now c.args.count (g.D.Pm.words c.args.dev.now) c.args.wants.now c.args.depth c.requires.below c.requires.deep c.requires.tables c.requires.agrees c.requires.above c.requires.count c.requires.room c.requires.zeros in
    fits (joins_at c.args.depth c.requires.below r c.loop.invariant c.loop-test.true c.in-Some.x c.entry_of_cell-word.result c.number-page.result c.in-Some-lowest_from.page c.in-Some.ensures.some.1 c.in-Some.ensures.some.2 c.entry_of_cell-word.ensures
    c.number-page.ensures c.in-Some-lowest_from.ensures.some c.lowest_from.ensures.in_range)

pub returns-in_err-store-clause-extends : goal.returns-in_err-store-clause-extends
returns-in_err-store-clause-extends g c =
    let r = ready c.args.frames.now c.args.count (g.D.Pm.words c.args.dev.now) c.args.wants.now c.args.depth c.requires.below c.requires.deep c.requires.tables c.requires.agrees c.requires.above c.requires.count c.requires.room c.requires.zeros in
    let j = joins_at c.args.depth c.requires.below r c.loop.invariant c.loop-test.true c.in-Some.x c.entry_of_cell-word.result c.number-page.result c.in-Some-lowest_from.page c.in-Some.ensures.some.1 c.in-Some.ensures.some.2 c.entry_of_cell-word.ensures
    c.number-page.ensures c.in-Some-lowest_from.ensures.some c.lowest_from.ensures.in_range in
    linking_extends c.args.frames.now c.args.count
    (subst (λ (l : List ℕ). Grown (g.D.Pm.words c.args.dev.now) l c.args.wants.now c.args.frames.now (without_lowest c.args.count c.args.frames.now)) (sym c.in_err-store.ensures.words_err) c.loop.invariant.whole.grown)
    (images_stored c.loop.invariant j (g.met.D.Pm.replays c.loop.dev) c.store.result c.store.ensures.step) (made_stored c.loop.invariant j (g.met.D.Pm.replays c.loop.dev) c.store.result c.store.ensures.step)

pub flush-requires : goal.flush-requires
flush-requires g c =
    let r = ready c.args.frames.now c.args.count (g.D.Pm.words c.args.dev.now) c.args.wants.now c.args.depth c.requires.below c.requires.deep c.requires.tables c.requires.agrees c.requires.above c.requires.count c.requires.room c.requires.zeros in
    let inside = fits (joins_at c.args.depth c.requires.below r c.loop.invariant c.loop-test.true c.in-Some.x c.entry_of_cell-word.result c.number-page.result c.in-Some-lowest_from.page c.in-Some.ensures.some.1 c.in-Some.ensures.some.2 c.entry_of_cell-word.ensures
    c.number-page.ensures c.in-Some-lowest_from.ensures.some c.lowest_from.ensures.in_range) in
    omega (arith, inside, ap length c.in_ok-store.ensures.words, length-set (g.D.Pm.words c.loop.dev) c.entry_of_cell-word.result (c.number-page.result * 4096 + 1))

pub returns-in_err-flush-clause-extends : goal.returns-in_err-flush-clause-extends
returns-in_err-flush-clause-extends g c =
    let r = ready c.args.frames.now c.args.count (g.D.Pm.words c.args.dev.now) c.args.wants.now c.args.depth c.requires.below c.requires.deep c.requires.tables c.requires.agrees c.requires.above c.requires.count c.requires.room c.requires.zeros in
    let j = joins_at c.args.depth c.requires.below r c.loop.invariant c.loop-test.true c.in-Some.x c.entry_of_cell-word.result c.number-page.result c.in-Some-lowest_from.page c.in-Some.ensures.some.1 c.in-Some.ensures.some.2 c.entry_of_cell-word.ensures
    c.number-page.ensures c.in-Some-lowest_from.ensures.some c.lowest_from.ensures.in_range in
    linking_extends c.args.frames.now c.args.count
    (subst (λ (l : List ℕ). Grown (g.D.Pm.words c.args.dev.now) l c.args.wants.now c.args.frames.now (without_lowest c.args.count c.args.frames.now)) (sym (c.flush.ensures.words ∙ c.in_ok-store.ensures.words)) (partly_linked j (g.D.Pm.words c.loop.dev) c.loop.invariant.whole).grown)
    (λ settled. flushed (images_stored c.loop.invariant j (g.met.D.Pm.replays c.loop.dev) c.store.result c.store.ensures.step settled) c.flush.ensures.step)
    (makes_step c.flush.result (made_stored c.loop.invariant j (g.met.D.Pm.replays c.loop.dev) c.store.result c.store.ensures.step) c.flush.ensures.step tt)

pub overflow_add-from : goal.overflow_add-from
overflow_add-from g c = omega (arith, c.number-page.ensures, c.in-Some-lowest_from.ensures.small)

pub overflow_add-cell : goal.overflow_add-cell
overflow_add-cell g c = omega (arith, c.in-Some.ensures.some.1, pow_few c.args.depth c.requires.deep)

pub loop-preserved : goal.loop-preserved
loop-preserved g c =
    let r = ready c.args.frames.now c.args.count (g.D.Pm.words c.args.dev.now) c.args.wants.now c.args.depth c.requires.below c.requires.deep c.requires.tables c.requires.agrees c.requires.above c.requires.count c.requires.room c.requires.zeros in
    let j = joins_at c.args.depth c.requires.below r c.loop.invariant c.loop-test.true c.in-Some.x c.entry_of_cell-word.result c.number-page.result c.in-Some-lowest_from.page c.in-Some.ensures.some.1 c.in-Some.ensures.some.2 c.entry_of_cell-word.ensures
    c.number-page.ensures c.in-Some-lowest_from.ensures.some c.lowest_from.ensures.in_range in
    linking_step c.loop.invariant j (g.met.D.Pm.replays c.loop.dev) c.store.result c.store.ensures.step c.in_ok-flush.ensures.step (c.flush.ensures.words ∙ c.in_ok-store.ensures.words)
    (number_next c.args.frames.now.free c.loop.from c.number-page.result c.in-Some-lowest_from.page c.number-page.ensures c.in-Some-lowest_from.ensures.some) c.in-Some.ensures.some.0
    (at_depth (λ m. c.in-Some.x < 512 ^ m) c.args.depth c.requires.below c.in-Some.ensures.some.1)
    (at_depth (λ m. NoneMissing (g.D.Pm.words c.loop.dev) c.args.wants.now m c.loop.cell c.in-Some.x) c.args.depth c.requires.below c.in-Some.ensures.first)
    (omega (arith, c.store.ensures.cause.later, c.flush.ensures.cause.later))

pub returns-clause-extends : goal.returns-clause-extends
returns-clause-extends g c =
    linking_extends c.args.frames.now c.args.count
    (subst (λ (l : List ℕ). Grown (g.D.Pm.words c.args.dev.now) l c.args.wants.now c.args.frames.now (without_lowest c.args.count c.args.frames.now)) (sym c.fence.ensures.words) c.loop.invariant.whole.grown)
    (λ settled. fenced (c.loop.invariant.images settled) c.fence.ensures.step) (makes_step c.fence.result c.loop.invariant.made c.fence.ensures.step tt)

pub returns-clause-done : goal.returns-clause-done
returns-clause-done g c =
    let r = ready c.args.frames.now c.args.count (g.D.Pm.words c.args.dev.now) c.args.wants.now c.args.depth c.requires.below c.requires.deep c.requires.tables c.requires.agrees c.requires.above c.requires.count c.requires.room c.requires.zeros in
    on_ok_then c.fence.result (linking_settled c.loop.invariant c.fence.result (g.met.D.Pm.replays c.loop.dev) c.fence.ensures.step)
    (λ settled. linking_done c.loop.invariant c.fence.ensures.words r (omega arith) settled)
