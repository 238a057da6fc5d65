use Rattle.std.proofs.Common.{◌≡◌, ◌<◌, ◌≤◌, Bool, false, ℕ, refl, subst, ◌∙◌, arith}
use Rattle.std.specs.Prelude.{Contains, ◌↔◌}
use Rattle.ct_base.specs.Rules.{entries, once}
use Rattle.ct_base.specs.Walk.{page_count}
use Rattle.ct_marks.specs.Marks.{is_marked}
use Rattle.ct_check.specs.Reading.{Walked}
use Rattle.ct_check.specs.Rules.{Stops}
use Rattle.ct_check.proofs.Sound.{both_hold, tables_all, frames_all, frames_free, entries_hold, bad_fails, twice_fails}
use Rattle.ct_check.proofs.tables.check_tables.Goals as goal

pub returns-in-Err-Entry-clause-damage : goal.returns-in-Err-Entry-clause-damage
returns-in-Err-Entry-clause-damage g c = (entries, refl, bad_fails (g.D.Pm.words c.args.dev.now) c.requires.staging (subst (Stops (g.D.Pm.words c.args.dev.now)) c.in-Err-Entry.field-0-is c.in-Err-Entry.ensures.stops))

pub returns-then-met-clause-damage : goal.returns-then-met-clause-damage
returns-then-met-clause-damage g c =
    let w = g.D.Pm.words c.args.dev.now in
    let walked = c.in-Ok.ensures.walked in
    (once, refl, twice_fails w c.requires.staging (entries_hold w walked) (walked.again c.if-met.true))

pub returns-in-Ok-unmarked-clause-tables : goal.returns-in-Ok-unmarked-clause-tables
returns-in-Ok-unmarked-clause-tables g c =
    let w = g.D.Pm.words c.args.dev.now in
    let count = c.requires.head.count in
    tables_all (subst (λ (b : Bool). Walked w 4 0 c.in-Ok.met.pages.items b) c.if-met.false c.in-Ok.ensures.walked) (omega (arith, count.0)) count.1

pub returns-in-Ok-unmarked-clause-frames : goal.returns-in-Ok-unmarked-clause-frames
returns-in-Ok-unmarked-clause-frames g c =
    let w = g.D.Pm.words c.args.dev.now in
    let marks = c.in-Ok.met.pages.items in
    let count : c.load-pages.result ≡ page_count w = c.load-pages.ensures in
    frames_all c.in-Ok-unmarked.frames c.in-Ok.ensures.walked (c.in-Ok-unmarked.ensures.pages ∙ count)
    (λ q. subst (λ (n : ℕ). Contains c.in-Ok-unmarked.frames.free q ↔ ((34 ≤ q) × (q < n) × (is_marked marks q ≡ false))) count (c.in-Ok-unmarked.ensures.free q))

pub returns-in-Ok-unmarked-clause-rules : goal.returns-in-Ok-unmarked-clause-rules
returns-in-Ok-unmarked-clause-rules g c =
    let w = g.D.Pm.words c.args.dev.now in
    let count = c.requires.head.count in
    both_hold (tables_all (subst (λ (b : Bool). Walked w 4 0 c.in-Ok.met.pages.items b) c.if-met.false c.in-Ok.ensures.walked) (omega (arith, count.0)) count.1)

pub returns-in-Ok-unmarked-clause-free : goal.returns-in-Ok-unmarked-clause-free
returns-in-Ok-unmarked-clause-free g c =
    let w = g.D.Pm.words c.args.dev.now in
    let marks = c.in-Ok.met.pages.items in
    let count : c.load-pages.result ≡ page_count w = c.load-pages.ensures in
    frames_free c.in-Ok-unmarked.frames c.in-Ok.ensures.walked c.requires.staging
    (λ q. subst (λ (n : ℕ). Contains c.in-Ok-unmarked.frames.free q ↔ ((34 ≤ q) × (q < n) × (is_marked marks q ≡ false))) count (c.in-Ok-unmarked.ensures.free q))
