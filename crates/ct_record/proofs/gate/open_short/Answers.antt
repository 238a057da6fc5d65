use Rattle.std.proofs.Common.{◌≡◌, ◌∙◌, ◌-◌, ℕ, List, set, refl, ap, inr, subst, sym, arith}
use Rattle.ct_base.specs.Settled.{pairs_at}
use Rattle.ct_pm.specs.declared.step.Step.TheVariants.{Store, Flush, Fence}
use Rattle.ct_pm.proofs.Made.{makes_step}
use Rattle.ct_pm.proofs.Told.{flushed, fenced}
use Rattle.ct_pm.proofs.OneWord.{Replays}
use Rattle.ct_record.specs.Record.{IsAll, IsArmed, StaysInLine, StaysInRecord}
use Rattle.ct_record.proofs.Arming.{none_yet, none_lawful, short_stored, short_lawful, short_reads, short_fenced, stores_none, three_steps}
use Rattle.ct_record.proofs.Drafts.{ok_map, ok_of}
use Rattle.ct_record.proofs.gate.open_short.Goals as goal

pub returns-in_err-flush_lines-clause-any_moment : goal.returns-in_err-flush_lines-clause-any_moment
returns-in_err-flush_lines-clause-any_moment g c = none_yet c.requires.full c.requires.images c.flush_lines.ensures.quiet

pub returns-in_err-flush_lines-clause-lawful : goal.returns-in_err-flush_lines-clause-lawful
returns-in_err-flush_lines-clause-lawful g c = none_lawful c.requires.full c.requires.images c.flush_lines.ensures.quiet

pub returns-in_err-store-clause-any_moment : goal.returns-in_err-store-clause-any_moment
returns-in_err-store-clause-any_moment g c =
    short_stored c.requires.full c.requires.short c.requires.images c.flush_lines.ensures.quiet (subst (Replays (g.D.Pm.told c.flush_lines.new.dev)) c.flush_lines.ensures.words (g.met.D.Pm.replays c.flush_lines.new.dev)) c.store.ensures.step

pub returns-in_err-flush-clause-any_moment : goal.returns-in_err-flush-clause-any_moment
returns-in_err-flush-clause-any_moment g c =
    flushed
    (short_stored c.requires.full c.requires.short c.requires.images c.flush_lines.ensures.quiet (subst (Replays (g.D.Pm.told c.flush_lines.new.dev)) c.flush_lines.ensures.words (g.met.D.Pm.replays c.flush_lines.new.dev)) c.store.ensures.step)
    c.flush.ensures.step

pub returns-clause-any_moment : goal.returns-clause-any_moment
returns-clause-any_moment g c =
    fenced
    (flushed
    (short_stored c.requires.full c.requires.short c.requires.images c.flush_lines.ensures.quiet (subst (Replays (g.D.Pm.told c.flush_lines.new.dev)) c.flush_lines.ensures.words (g.met.D.Pm.replays c.flush_lines.new.dev)) c.store.ensures.step)
    c.flush.ensures.step)
    c.fence.ensures.step

pub returns-in_err-store-clause-lawful : goal.returns-in_err-store-clause-lawful
returns-in_err-store-clause-lawful g c =
    short_lawful c.requires.full c.requires.short c.requires.images c.flush_lines.ensures.quiet (subst (Replays (g.D.Pm.told c.flush_lines.new.dev)) c.flush_lines.ensures.words (g.met.D.Pm.replays c.flush_lines.new.dev)) c.store.ensures.step

pub returns-in_err-flush-clause-lawful : goal.returns-in_err-flush-clause-lawful
returns-in_err-flush-clause-lawful g c =
    flushed
    (short_lawful c.requires.full c.requires.short c.requires.images c.flush_lines.ensures.quiet (subst (Replays (g.D.Pm.told c.flush_lines.new.dev)) c.flush_lines.ensures.words (g.met.D.Pm.replays c.flush_lines.new.dev)) c.store.ensures.step)
    c.flush.ensures.step

pub returns-clause-lawful : goal.returns-clause-lawful
returns-clause-lawful g c =
    fenced
    (flushed
    (short_lawful c.requires.full c.requires.short c.requires.images c.flush_lines.ensures.quiet (subst (Replays (g.D.Pm.told c.flush_lines.new.dev)) c.flush_lines.ensures.words (g.met.D.Pm.replays c.flush_lines.new.dev)) c.store.ensures.step)
    c.flush.ensures.step)
    c.fence.ensures.step

pub returns-in_err-flush_lines-clause-made : goal.returns-in_err-flush_lines-clause-made
returns-in_err-flush_lines-clause-made g c = stores_none StaysInRecord c.flush_lines.ensures.made

pub returns-in_err-store-clause-made : goal.returns-in_err-store-clause-made
returns-in_err-store-clause-made g c = makes_step c.store.result (stores_none StaysInRecord c.flush_lines.ensures.made) c.store.ensures.step (omega arith, omega arith)

pub returns-in_err-flush-clause-made : goal.returns-in_err-flush-clause-made
returns-in_err-flush-clause-made g c = makes_step c.flush.result (makes_step c.store.result (stores_none StaysInRecord c.flush_lines.ensures.made) c.store.ensures.step (omega arith, omega arith)) c.flush.ensures.step tt

pub returns-clause-made : goal.returns-clause-made
returns-clause-made g c = makes_step c.fence.result (makes_step c.flush.result (makes_step c.store.result (stores_none StaysInRecord c.flush_lines.ensures.made) c.store.ensures.step (omega arith, omega arith)) c.flush.ensures.step tt) c.fence.ensures.step tt

pub returns-in_err-flush_lines-clause-in_line : goal.returns-in_err-flush_lines-clause-in_line
returns-in_err-flush_lines-clause-in_line g c = stores_none StaysInLine c.flush_lines.ensures.made

pub returns-in_err-store-clause-in_line : goal.returns-in_err-store-clause-in_line
returns-in_err-store-clause-in_line g c = makes_step c.store.result (stores_none StaysInLine c.flush_lines.ensures.made) c.store.ensures.step (λ inside. inr refl)

pub returns-in_err-flush-clause-in_line : goal.returns-in_err-flush-clause-in_line
returns-in_err-flush-clause-in_line g c = makes_step c.flush.result (makes_step c.store.result (stores_none StaysInLine c.flush_lines.ensures.made) c.store.ensures.step (λ inside. inr refl)) c.flush.ensures.step tt

pub returns-clause-in_line : goal.returns-clause-in_line
returns-clause-in_line g c = makes_step c.fence.result (makes_step c.flush.result (makes_step c.store.result (stores_none StaysInLine c.flush_lines.ensures.made) c.store.ensures.step (λ inside. inr refl)) c.flush.ensures.step tt) c.fence.ensures.step tt

pub returns-in_err-flush-clause-reads : goal.returns-in_err-flush-clause-reads
returns-in_err-flush-clause-reads g c =
    let was = g.D.Pm.words c.args.dev.now in
    let is : g.D.Pm.words c.flush.new.self ≡ set was 527 c.args.count = c.flush.ensures.words ∙ c.in_ok-store.ensures.words ∙ ap (λ (l : List ℕ). set l 527 c.args.count) c.flush_lines.ensures.words in
    inr (subst (IsAll (pairs_at 520 c.args.count was) was) (sym is) (short_reads c.requires.full c.requires.short).all)

pub returns-clause-reads : goal.returns-clause-reads
returns-clause-reads g c =
    let was = g.D.Pm.words c.args.dev.now in
    let is : g.D.Pm.words c.fence.new.self ≡ set was 527 c.args.count =
    c.fence.ensures.words ∙ c.flush.ensures.words ∙ c.in_ok-store.ensures.words ∙ ap (λ (l : List ℕ). set l 527 c.args.count) c.flush_lines.ensures.words in
    inr (subst (IsAll (pairs_at 520 c.args.count was) was) (sym is) (short_reads c.requires.full c.requires.short).all)

pub returns-clause-armed : goal.returns-clause-armed
returns-clause-armed g c =
    let was = g.D.Pm.words c.args.dev.now in
    let is : g.D.Pm.words c.fence.new.self ≡ set was 527 c.args.count =
    c.fence.ensures.words ∙ c.flush.ensures.words ∙ c.in_ok-store.ensures.words ∙ ap (λ (l : List ℕ). set l 527 c.args.count) c.flush_lines.ensures.words in
    ok_of c.fence.result (subst (IsArmed (pairs_at 520 c.args.count was) was) (sym is) (short_reads c.requires.full c.requires.short))

pub returns-clause-settled : goal.returns-clause-settled
returns-clause-settled g c =
    short_fenced c.requires.full c.requires.short (g.D.Pm.words c.flush.new.self) c.requires.images c.flush_lines.ensures.quiet
    (subst (Replays (g.D.Pm.told c.flush_lines.new.dev)) c.flush_lines.ensures.words (g.met.D.Pm.replays c.flush_lines.new.dev))
    (c.flush.ensures.words ∙ c.in_ok-store.ensures.words ∙ ap (λ (l : List ℕ). set l 527 c.args.count) c.flush_lines.ensures.words) (g.met.D.Pm.replays c.flush.new.self)
    c.store.ensures.step c.in_ok-flush.ensures.step (λ line from below. c.in_ok-flush_lines.ensures.back line from (omega (arith, below, c.div_ceil.ensures))) c.fence.ensures.step

pub returns-clause-three : goal.returns-clause-three
returns-clause-three g c =
    ok_map c.fence.result (λ last is.
    three_steps (g.D.Pm.told c.args.dev.now) (Store 527 c.args.count) (Flush 65) Fence (c.div_ceil.result - 66) (omega (arith, is, c.div_ceil.ensures)) c.in_ok-flush_lines.ensures.steps c.in_ok-store.ensures.step.ok c.in_ok-flush.ensures.step.ok last)
    c.fence.ensures.step.ok
