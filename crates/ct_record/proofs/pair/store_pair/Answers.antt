use Rattle.std.proofs.Common.{◌≡◌, ◌+◌, ◌<◌, ℕ, length, sym, subst}
use Rattle.ct_pm.proofs.Made.{makes_none, makes_step}
use Rattle.ct_pm.proofs.Quiet.{quiet_here, quiet_store}
use Rattle.ct_pm.proofs.OneWord.{on_device}
use Rattle.std.specs.Prelude.{slice_index}
use Rattle.ct_record.proofs.pair.store_pair.Goals as goal

pub returns-clause-quiet : goal.returns-clause-quiet
returns-clause-quiet g c =
    let was = g.D.Pm.words c.args.dev.now in
    let told = g.D.Pm.told c.args.dev.now in
    let Moved : ℕ → Type 0 = λ word. word ≡ slice_index was c.args.at in
    quiet_store Moved (quiet_here Moved told) c.store.ensures.step
    (on_device told was c.load-word.result (g.met.D.Pm.replays c.args.dev.now) (subst (λ (w : ℕ). w < length was) (sym c.load-word.ensures) c.requires.target)) c.load-word.ensures

pub returns-clause-made : goal.returns-clause-made
returns-clause-made g c =
    let was = g.D.Pm.words c.args.dev.now in
    let only : ℕ → ℕ → Type 0 = λ word value. (word ≡ slice_index was c.args.at) × (value ≡ slice_index was (c.args.at + 1)) in
    makes_step c.store.result (makes_none only (g.D.Pm.told c.args.dev.now)) c.store.ensures.step (c.load-word.ensures, c.load-value.ensures)
