-- A run of pages is waited for, and what a crash on the way leaves.
use Rattle.std.proofs.Common.{◌≡◌, ℕ, ◌/◌, ◌≤◌, List, [], ◌∷◌, length, Option, Result, Ok, Err, refl, sym, ap, subst, ◌∙◌, inl, inr, arith}
use Rattle.std.specs.Prelude.{OnOk}
use Rattle.ct_base.specs.Spares.{SparesFiles}
use Rattle.ct_base.specs.State.{SameState}
use Rattle.ct_base.specs.Walk.{AreTables}
use Rattle.ct_base.specs.Wants.{Want}
use Rattle.ct_frames.specs.Agrees.{Agrees}
use Rattle.ct_frames.specs.Free.{FreePages}
use Rattle.ct_pm.specs.declared.step.Step.TheVariants.{Flush, Fence}
use Rattle.ct_pm.specs.Images.{History}
use Rattle.ct_pm.specs.Device.{with_steps, AddsStep, StoresOver, LeavesOnly, NothingPending, SameOff, WrittenBack}
use Rattle.ct_pm.proofs.Fence.{settled_by_fence}
use Rattle.ct_pm.proofs.Made.{makes_step}
use Rattle.ct_pm.proofs.OneWord.{Replays}
use Rattle.ct_pm.proofs.Over.{stores_over}
use Rattle.ct_pm.proofs.Quiet.{back_flush, back_flushed, quiet_settled}
use Rattle.ct_pm.proofs.Told.{flushed, fenced, weaker, with_more}
use Rattle.ct_stage.specs.Staged.{TakesAt, MayStage, Works, Begun, SeesSame, IsResting, WaitsOnce, IsLaid, Makes}
use Rattle.ct_stage.proofs.Entry.{never_step}
use Rattle.ct_stage.proofs.Off.{sees_same, state_off, spares_files, laid_off}
use Rattle.ct_stage.proofs.Steps.{takes_cases}

-- a flush and a fence store nothing
pub works_flushed : {T E : Type 0} (r : Result T E) {entry line : ℕ} {old mid new : List ℕ} {told then now : Option History} {before after : FreePages} → Works entry old mid told then before after
    → new ≡ mid → AddsStep r (Flush line) then now → Works entry old new told now before after
works_flushed r {entry} {old = old} {before = before} {after = after} w is adds = record {
  same = subst (λ (l : List ℕ). SameOff (TakesAt before after entry) l old) (sym is) w.same;
  quiet = flushed w.quiet adds;
  made = makes_step r w.made adds tt;
  left = w.left;
}

pub works_fenced : {T E : Type 0} (r : Result T E) {entry : ℕ} {old mid new : List ℕ} {told then now : Option History} {before after : FreePages} → Works entry old mid told then before after
    → new ≡ mid → AddsStep r Fence then now → Works entry old new told now before after
works_fenced r {entry} {old = old} {before = before} {after = after} w is adds = record {
  same = subst (λ (l : List ℕ). SameOff (TakesAt before after entry) l old) (sym is) w.same;
  quiet = fenced w.quiet adds;
  made = makes_step r w.made adds tt;
  left = w.left;
}

-- all that was stored is written back, so a fence leaves nothing pending
pub staged_settled : {T E T' E' : Type 0} {done : T'} {end : T} {start mid words : List ℕ} {was told flushed now : Option History} {first frames : FreePages} → Replays was start → NothingPending was
    → Begun start mid was told first frames → AddsStep {T = T'} {E = E'} (Ok done) (Flush 2112) told flushed → words ≡ mid → Replays flushed words → AddsStep {T = T} {E = E} (Ok end) Fence flushed now → NothingPending now
staged_settled {done = done} {start = start} {words = words} {was = was} {flushed = flushed} {first = first} {frames = frames} replays settled b flush is replays' fence =
    let w : Works 16898 start words was flushed first frames = works_flushed (Ok done) b.works is flush in
    settled_by_fence (takes_cases first frames 16898) (quiet_settled replays settled w.quiet) w.same replays'
    (λ k moved. elim moved [
      | inl taken ↦ back_flush (Ok done) (k / 8) flush (b.back k taken)
      | inr at ↦ let line : 2112 ≡ k / 8 = omega (arith, at) in subst (λ (l : ℕ). WrittenBack flushed l) line (back_flushed flush)
    ])
    fence

-- the root table is on the device
pub staged_long : {entry : ℕ} {start now : List ℕ} {was told : Option History} {first frames : FreePages} → AreTables start → Works entry start now was told first frames → 17408 ≤ length now
staged_long tables works = omega (arith, tables.some, tables.there, works.same.size)

-- and it is the one fence
pub staged_once : {T E T' E' : Type 0} {done : T'} {end : T} {start mid : List ℕ} {was told flushed now : Option History} {first frames : FreePages} → Begun start mid was told first frames
    → AddsStep {T = T'} {E = E'} (Ok done) (Flush 2112) told flushed → AddsStep {T = T} {E = E} (Ok end) Fence flushed now → WaitsOnce was now
staged_once {was = was} b flush fence =
    let w = never_step b.plain flush refl in
    record { added = w.added; goes_on = fence.ok ∙ ap (with_steps (Fence ∷ [])) w.goes_on ∙ with_more was w.added (Fence ∷ []); none = w.none }

-- ---- what a crash on the way leaves

module _ {start words : List ℕ} {was now : Option History} {first frames : FreePages} (tables : AreTables start) (agrees : Agrees start first) (works : Works 16898 start words was now first frames) where
  pub staged_seen : SeesSame start words
  staged_seen = sees_same tables agrees works.same

  pub staged_state : IsResting start → SameState start words
  staged_state rest = state_off rest agrees works.same

  pub staged_laid : {T E : Type 0} (wants : List Want) (r : Result T E) → OnOk r (Makes wants start words first frames) → OnOk r (IsResting start → IsLaid words)
  staged_laid wants (Ok done) makes = λ rest. laid_off rest agrees works.same makes.tables
  staged_laid wants (Err e) makes = tt

  module _ (replays : Replays was start) (settled : NothingPending was) where
    pub staged_images : LeavesOnly was now (λ image. SameOff (MayStage first frames) image start)
    staged_images = quiet_settled replays settled works.quiet

    pub seen_images : LeavesOnly was now (SeesSame start)
    seen_images = weaker (SeesSame start) (λ image same. sees_same tables agrees same) staged_images

    pub state_images : IsResting start → LeavesOnly was now (SameState start)
    state_images rest = weaker (SameState start) (λ image same. state_off rest agrees same) staged_images

    pub staged_stores : IsResting start → StoresOver SparesFiles was now
    staged_stores rest = stores_over SparesFiles (λ image word value same moved file. spares_files word rest agrees same moved file) staged_images works.made
