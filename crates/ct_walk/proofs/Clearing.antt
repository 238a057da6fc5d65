-- The lowest free pages are filled with zeros, one after another.
use Rattle.std.proofs.Common.{◌≡◌, ◌≢◌, ℕ, ◌+◌, ◌*◌, ◌/◌, ◌%◌, ◌<◌, ◌≤◌, List, ◌∷◌, refl, ap, subst, ◌∙◌, inl, inr, arith}
use Rattle.std.specs.Prelude.{Contains, Option, Result, OnOk}
use Rattle.std.specs.Prelude.{◌⊎◌}
use Rattle.std.proofs.lemmas.Bool.{cases_eq}
use Rattle.ct_base.specs.Walk.{word}
use Rattle.ct_frames.specs.Free.{FreePages, from_on}
use Rattle.ct_pm.specs.declared.step.Step.TheVariants.{Fence}
use Rattle.ct_pm.specs.Images.{History}
use Rattle.ct_pm.specs.Device.{AddsStep, LeavesOnly, MakesOnly, NothingPending, WrittenBack, SameOff, QuietOff, KeepsOthersBack, IsIn}
use Rattle.ct_pm.proofs.Fence.{settled_by_fence}
use Rattle.ct_pm.proofs.Made.{makes_none, makes_then, makes_weaker}
use Rattle.ct_pm.proofs.OneWord.{Replays}
use Rattle.ct_pm.proofs.Quiet.{quiet_here, quiet_then, quiet_settled}
use Rattle.ct_walk.specs.Growth.{IsTaken}
use Rattle.ct_walk.specs.Depths.{without_lowest, IsOnTaken, AreZeros}
use Rattle.ct_walk.proofs.Lowest.{Reach, reach_start, reach_next, page_taken, taken_last, taken_more, taken_none, on_taken_or}
use Rattle.ct_walk.proofs.Zeros.{on_ok_if}

same_wider : (Few Many : ℕ → Type 0) (a b : List ℕ) → ((w : ℕ) → Few w → Many w) → SameOff Few a b → SameOff Many a b
same_wider Few Many a b within same = record { size = same.size; others = λ w off. same.others w (λ few. off (within w few)) }

same_then : (Moved : ℕ → Type 0) (a b c : List ℕ) → SameOff Moved a b → SameOff Moved b c → SameOff Moved a c
same_then Moved a b c first second = record { size = first.size ∙ second.size; others = λ w off. first.others w off ∙ second.others w off }

quiet_wider : (Few Many : ℕ → Type 0) (old new : Option History) → ((w : ℕ) → Few w → Many w) → QuietOff Few old new → QuietOff Many old new
quiet_wider Few Many old new within run = quiet_then Many within (quiet_here Many old) run

-- k of the pages hold zeros, and no other word has changed.
pub record Clearing (f : FreePages) (k from : ℕ) (was words : List ℕ) (old told : Option History) (faults later : ℕ) : Type 0 where
  pub reach : Reach f k from
  pub range : (q : ℕ) → IsTaken f (without_lowest k f) q → 34 ≤ q
  pub zeros : AreZeros words f (without_lowest k f)
  pub same : SameOff (IsOnTaken f (without_lowest k f)) words was
  pub quiet : QuietOff (IsOnTaken f (without_lowest k f)) old told
  pub back : (w : ℕ) → IsOnTaken f (without_lowest k f) w → WrittenBack told (w / 8)
  pub made : MakesOnly (λ at put. IsOnTaken f (without_lowest k f) at) old told
  pub calm : faults ≤ later

pub clearing_start : (f : FreePages) (was : List ℕ) (old : Option History) (faults : ℕ) → Clearing f 0 0 was was old old faults faults
clearing_start f was old faults = record {
  reach = reach_start f;
  range = λ q t. absurd (taken_none f q t);
  zeros = λ w t. absurd (taken_none f (w / 512) t);
  same = record { size = refl; others = λ w off. refl };
  quiet = quiet_here (IsOnTaken f (without_lowest 0 f)) old;
  back = λ w t. absurd (taken_none f (w / 512) t);
  made = makes_none (λ at put. IsOnTaken f (without_lowest 0 f) at) old;
  calm = omega arith;
}

-- what the next page's zeros leave, for as many pages as are wanted
module _ {f : FreePages} {k from page : ℕ} {was words : List ℕ} {old told : Option History} {faults later : ℕ} (so_far : Clearing f k from was words old told faults later)
    (next : from_on from f.free ≡ page ∷ from_on (page + 1) f.free) where
  inside : (m : ℕ) → k < m → (w : ℕ) → IsIn (page * 512) 512 w → IsOnTaken f (without_lowest m f) w
  inside m less w is =
      let here : page ≡ w / 512 = omega (arith, is.0, is.1) in
      subst (λ (q : ℕ). IsTaken f (without_lowest m f) q) here (page_taken so_far.reach next m less)

  before : (m : ℕ) → k < m → (w : ℕ) → IsOnTaken f (without_lowest k f) w → IsOnTaken f (without_lowest m f) w
  before m less w t = taken_more f k m (w / 512) (omega arith) t

  pub same_more : {after : List ℕ} (m : ℕ) → k < m → SameOff (IsIn (page * 512) 512) after words → SameOff (IsOnTaken f (without_lowest m f)) after was
  same_more {after} m less same =
      let Moved : ℕ → Type 0 = IsOnTaken f (without_lowest m f) in
      same_then Moved after words was
      (same_wider (IsIn (page * 512) 512) Moved after words (inside m less) same)
      (same_wider (IsOnTaken f (without_lowest k f)) Moved words was (before m less) so_far.same)

  pub quiet_more : {then : Option History} (m : ℕ) → k < m → QuietOff (IsIn (page * 512) 512) told then → QuietOff (IsOnTaken f (without_lowest m f)) old then
  quiet_more m less quiet =
      let Moved : ℕ → Type 0 = IsOnTaken f (without_lowest m f) in
      quiet_then Moved (inside m less) (quiet_wider (IsOnTaken f (without_lowest k f)) Moved old told (before m less) so_far.quiet) quiet

  pub made_more : {then : Option History} (m : ℕ) → k < m → MakesOnly (λ at put. IsIn (page * 512) 512 at) told then → MakesOnly (λ at put. IsOnTaken f (without_lowest m f) at) old then
  made_more m less made =
      makes_then
      (makes_weaker (λ at put. IsOnTaken f (without_lowest m f) at) (λ at put t. before m less at t) so_far.made)
      (makes_weaker (λ at put. IsOnTaken f (without_lowest m f) at) (λ at put is. inside m less at is) made)

  pub images_more : {then : Option History} (n : ℕ) → k < n → Replays old was → QuietOff (IsIn (page * 512) 512) told then
      → NothingPending old → LeavesOnly old then (λ image. SameOff (IsOnTaken f (without_lowest n f)) image was)
  images_more n lt replays quiet settled = quiet_settled replays settled (quiet_more n lt quiet)

  apart : (w v : ℕ) → w / 512 ≢ page → IsIn (page * 512) 512 v → v / 8 ≡ w / 8 → ⊥
  apart w v other is line = other (omega (arith, is.0, is.1, line))

  pub clearing_step : {after : List ℕ} {then : Option History} {last : ℕ} → ((q : ℕ) → Contains f.free q → (34 ≤ q) × (q < f.pages)) → ((i : ℕ) → i < 512 → word after (page * 512 + i) ≡ 0)
      → SameOff (IsIn (page * 512) 512) after words → QuietOff (IsIn (page * 512) 512) told then
      → ((line : ℕ) → page * 64 ≤ line → line < page * 64 + 64 → WrittenBack then line) → KeepsOthersBack (IsIn (page * 512) 512) told then
      → MakesOnly (λ at put. IsIn (page * 512) 512 at) told then → later ≤ last
      → Clearing f (k + 1) (page + 1) was after old then faults last
  clearing_step {after} range zeros same quiet back others made calm = record {
    reach = reach_next so_far.reach next;
    range = λ q t. (range q t.was).0;
    zeros = λ w t. elim (taken_last so_far.reach next (w / 512) t) [
      | inl here ↦
          let at : w ≡ page * 512 + w % 512 = omega (arith, here) in
          ap (word after) at ∙ zeros (w % 512) (omega arith)
      | inr was_taken ↦ elim (on_page w) [
        | inl here ↦
            let at : w ≡ page * 512 + w % 512 = omega (arith, here) in
            ap (word after) at ∙ zeros (w % 512) (omega arith)
        | inr other ↦ same.others w (λ is. other (omega (arith, is.0, is.1))) ∙ so_far.zeros w was_taken
      ]
    ];
    same = same_more (k + 1) (omega arith) same;
    quiet = quiet_more (k + 1) (omega arith) quiet;
    back = λ w t. elim (on_page w) [
      | inl here ↦ back (w / 8) (omega (arith, here)) (omega (arith, here))
      | inr other ↦ elim (taken_last so_far.reach next (w / 512) t) [
        | inl here ↦ absurd (other here)
        | inr was_taken ↦ others (w / 8) (λ v is line. apart w v other is line) (so_far.back w was_taken)
      ]
    ];
    made = made_more (k + 1) (omega arith) made;
    calm = omega (arith, so_far.calm, calm);
  }
    where
      on_page : (w : ℕ) → (w / 512 ≡ page) ⊎ (w / 512 ≢ page)
      on_page w = cases_eq (w / 512) page

-- all of them do
pub clearing_end : {f : FreePages} {k n from : ℕ} {was words : List ℕ} {old told : Option History} {faults later : ℕ} → Clearing f k from was words old told faults later → k ≡ n → Clearing f n from was words old told faults later
clearing_end {f = f} {from = from} {was = was} {words = words} {old = old} {told = told} {faults = faults} {later = later} so_far all = subst (λ (m : ℕ). Clearing f m from was words old told faults later) all so_far

pub clearing_settled : {T E : Type 0} (r : Result T E) {f : FreePages} {k from : ℕ} {was words : List ℕ} {old told new : Option History} {faults later : ℕ} → Clearing f k from was words old told faults later
    → Replays old was → Replays told words → AddsStep r Fence told new → OnOk r (NothingPending old → NothingPending new)
clearing_settled r {f = f} {k = k} {old = old} {new = new} so_far replays replays' adds =
    on_ok_if (NothingPending old) (NothingPending new) r (λ settled.
    settled_by_fence (on_taken_or f (without_lowest k f)) (quiet_settled replays settled so_far.quiet) so_far.same replays' so_far.back adds)
