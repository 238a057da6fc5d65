use Rattle.std.proofs.Common.{◌≡◌, ℕ, refl}
use Rattle.ct_pm.proofs.Made.{makes_none, makes_step}
use Rattle.ct_pm.proofs.Told.{flushed, fenced}
use Rattle.ct_pm.proofs.OneWord.{one_word, one_word_settled}
use Rattle.ct_format.proofs.Magic.{on_err, one_made, two_made, all_made}
use Rattle.ct_format.proofs.formatting.put_magic.Goals as goal

pub returns-in_err-flush-clause-images : goal.returns-in_err-flush-clause-images
returns-in_err-flush-clause-images g c =
    flushed (one_word (g.D.Pm.words c.args.dev.now) (g.met.D.Pm.replays c.args.dev.now) c.requires.settled c.requires.within c.store.ensures.step) c.flush.ensures.step

pub returns-clause-images : goal.returns-clause-images
returns-clause-images g c =
    fenced
    (flushed (one_word (g.D.Pm.words c.args.dev.now) (g.met.D.Pm.replays c.args.dev.now) c.requires.settled c.requires.within c.store.ensures.step) c.flush.ensures.step)
    c.fence.ensures.step

pub returns-clause-settled : goal.returns-clause-settled
returns-clause-settled g c =
    one_word_settled (g.D.Pm.words c.args.dev.now) (g.met.D.Pm.replays c.args.dev.now) c.requires.settled c.requires.within
    c.in_ok-store.ensures.step c.in_ok-flush.ensures.step c.fence.ensures.step

pub returns-in_err-flush-clause-unfenced : goal.returns-in_err-flush-clause-unfenced
returns-in_err-flush-clause-unfenced g c = on_err c.from_residual-in_err-flush.result (one_made c.args.value (g.D.Pm.told c.args.dev.now) c.in_ok-store.ensures.step.ok c.in_err-flush.ensures.step.err)

pub returns-clause-unfenced : goal.returns-clause-unfenced
returns-clause-unfenced g c = two_made c.args.value (g.D.Pm.told c.args.dev.now) c.in_ok-store.ensures.step.ok c.in_ok-flush.ensures.step.ok c.fence.result c.fence.ensures.step

pub returns-clause-fenced : goal.returns-clause-fenced
returns-clause-fenced g c = all_made c.args.value (g.D.Pm.told c.args.dev.now) c.in_ok-store.ensures.step.ok c.in_ok-flush.ensures.step.ok c.fence.result c.fence.ensures.step

pub returns-clause-made : goal.returns-clause-made
returns-clause-made g c =
    let only : ℕ → ℕ → Type 0 = λ at put. (at ≡ 0) × (put ≡ c.args.value) in
    makes_step c.fence.result (makes_step c.flush.result (makes_step c.store.result (makes_none only (g.D.Pm.told c.args.dev.now)) c.store.ensures.step (refl, refl)) c.flush.ensures.step tt) c.fence.ensures.step tt
