use Rattle.std.proofs.Common.{◌≡◌, ℕ, refl}
use Rattle.ct_pm.proofs.Made.{makes_none, makes_step}
use Rattle.ct_pm.proofs.Told.{flushed, fenced}
use Rattle.ct_pm.proofs.OneWord.{one_word, one_word_settled}
use Rattle.ct_pm.specs.Device.{NothingPending}
use Rattle.ct_walk.proofs.Zeros.{on_ok_if, entry_shown}
use Rattle.ct_walk.proofs.growing.put_entry.Goals as goal

pub returns-in_err-store-clause-images : goal.returns-in_err-store-clause-images
returns-in_err-store-clause-images g c =
    λ settled. one_word (g.D.Pm.words c.args.dev.now) (g.met.D.Pm.replays c.args.dev.now) settled c.requires c.store.ensures.step

pub returns-in_err-flush-clause-images : goal.returns-in_err-flush-clause-images
returns-in_err-flush-clause-images g c =
    λ settled. flushed (one_word (g.D.Pm.words c.args.dev.now) (g.met.D.Pm.replays c.args.dev.now) settled c.requires c.store.ensures.step) c.flush.ensures.step

pub returns-clause-images : goal.returns-clause-images
returns-clause-images g c =
    λ settled. fenced
    (flushed (one_word (g.D.Pm.words c.args.dev.now) (g.met.D.Pm.replays c.args.dev.now) settled c.requires c.store.ensures.step) c.flush.ensures.step)
    c.fence.ensures.step

pub returns-clause-settled : goal.returns-clause-settled
returns-clause-settled g c =
    on_ok_if (NothingPending (g.D.Pm.told c.args.dev.now)) (NothingPending (g.D.Pm.told c.fence.new.self)) c.fence.result (λ settled. one_word_settled (g.D.Pm.words c.args.dev.now) (g.met.D.Pm.replays c.args.dev.now) settled c.requires
    c.in_ok-store.ensures.step c.in_ok-flush.ensures.step c.fence.ensures.step)

pub returns-clause-made : goal.returns-clause-made
returns-clause-made g c =
    let only : ℕ → ℕ → Type 0 = λ at put. (at ≡ c.args.word) × (put ≡ c.args.value) in
    makes_step c.fence.result (makes_step c.flush.result (makes_step c.store.result (makes_none only (g.D.Pm.told c.args.dev.now)) c.store.ensures.step (refl, refl)) c.flush.ensures.step tt) c.fence.ensures.step tt

pub returns-clause-shown : goal.returns-clause-shown
returns-clause-shown g c =
    entry_shown c.fence.result (g.D.Pm.words c.args.dev.now) c.args.word c.args.value (g.met.D.Pm.replays c.args.dev.now) c.requires c.in_ok-store.ensures.step c.in_ok-flush.ensures.step c.fence.ensures.step
