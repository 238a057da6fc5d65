use Rattle.std.proofs.Common.{◌≡◌, ℕ, refl}
use Rattle.ct_pm.proofs.Made.{makes_none, makes_step}
use Rattle.ct_pm.proofs.Told.{flushed, fenced}
use Rattle.ct_pm.proofs.OneWord.{one_word, one_word_settled}
use Rattle.ct_pm.proofs.writes.commit.Goals as goal

pub returns-in_err-store-clause-any_moment : goal.returns-in_err-store-clause-any_moment
returns-in_err-store-clause-any_moment g c =
    one_word (g.D.Pm.words c.args.dev.now) (g.met.D.Pm.replays c.args.dev.now) c.requires.settled c.requires.within c.store.ensures.step

pub returns-in_err-flush-clause-any_moment : goal.returns-in_err-flush-clause-any_moment
returns-in_err-flush-clause-any_moment g c =
    flushed (one_word (g.D.Pm.words c.args.dev.now) (g.met.D.Pm.replays c.args.dev.now) c.requires.settled c.requires.within c.store.ensures.step) c.flush.ensures.step

pub returns-clause-any_moment : goal.returns-clause-any_moment
returns-clause-any_moment g c =
    fenced
    (flushed (one_word (g.D.Pm.words c.args.dev.now) (g.met.D.Pm.replays c.args.dev.now) c.requires.settled c.requires.within c.store.ensures.step) c.flush.ensures.step)
    c.fence.ensures.step

pub returns-clause-settled : goal.returns-clause-settled
returns-clause-settled g c =
    one_word_settled (g.D.Pm.words c.args.dev.now) (g.met.D.Pm.replays c.args.dev.now) c.requires.settled c.requires.within
    c.in_ok-store.ensures.step c.in_ok-flush.ensures.step c.fence.ensures.step

pub returns-clause-made : goal.returns-clause-made
returns-clause-made g c =
    let only : ℕ → ℕ → Type 0 = λ at put. (at ≡ c.args.word) × (put ≡ c.args.value) in
    makes_step c.fence.result (makes_step c.flush.result (makes_step c.store.result (makes_none only (g.D.Pm.told c.args.dev.now)) c.store.ensures.step (refl, refl)) c.flush.ensures.step tt) c.fence.ensures.step tt
