-- What staging may store to, and what it leaves.
use Rattle.std.specs.Prelude.{◌≡◌, ◌≢◌, ℕ, suc, ◌+◌, ◌*◌, ◌/◌, ◌^◌, ◌<◌, ◌≤◌, ◌⊎◌, false, List, [], ◌∷◌, length, Contains, Option}
use Rattle.ct_base.specs.declared.layout.TheConstants.{ADDRESS_END, FIRST_PAGE, PAGE_BYTES, PAGE_WORDS, ROOT_PAGE, ROOT_WORD, SLOT_SPAN, STAGING_SLOT, TABLE_ENTRIES}
use Rattle.ct_base.specs.Rules.{mapped, HoldsAt}
use Rattle.ct_base.specs.Settled.{IsShut}
use Rattle.ct_base.specs.View.{view}
use Rattle.ct_base.specs.Walk.{word, byte, page_at, AreTables}
use Rattle.ct_base.specs.Wants.{Want, is_wanted, missing}
use Rattle.ct_frames.specs.Agrees.{Agrees}
use Rattle.ct_frames.specs.Free.{FreePages}
use Rattle.ct_pm.specs.declared.step.Step.{Step}
use Rattle.ct_pm.specs.declared.step.Step.TheVariants.{Fence}
use Rattle.ct_pm.specs.Images.{History, is_fence}
use Rattle.ct_pm.specs.Device.{with_steps, MakesOnly, QuietOff, SameOff, WrittenBack}
use Rattle.ct_walk.specs.Growth.{IsTaken}

-- the word lies on a page from 34 on that was taken, or is this entry
abbrev pub TakesAt : FreePages → FreePages → ℕ → ℕ → Type 0
TakesAt before after entry w = ((FIRST_PAGE * PAGE_WORDS ≤ w) × IsTaken before after (w / PAGE_WORDS)) ⊎ (w ≡ entry)

-- the word lies on a page that was taken, or is root slot 2
abbrev pub MayStage : FreePages → FreePages → ℕ → Type 0
MayStage before after = TakesAt before after (ROOT_WORD + STAGING_SLOT)

-- Work that makes pages behind an entry, whether it is done or broke off: off the pages taken and the entry no word
-- changes, and none in any image of a crash.
pub record Works (entry : ℕ) (old new : List ℕ) (told now : Option History) (before after : FreePages) : Type 0 where
  pub same : SameOff (TakesAt before after entry) new old
  pub quiet : QuietOff (TakesAt before after entry) told now
  pub made : MakesOnly (λ at put. TakesAt before after entry at) told now
  pub left : (q : ℕ) → Contains after.free q → Contains before.free q

-- The tables are those of old with more pages, for wanted cells alone and out of those taken.
pub record Makes (wants : List Want) (old new : List ℕ) (before after : FreePages) : Type 0 where
  pub tables : AreTables new
  pub walks : (d x : ℕ) → d ≤ 4 → page_at old d x ≢ 0 → page_at new d x ≡ page_at old d x
  pub cells : (d x : ℕ) → d ≤ 4 → is_wanted wants d x ≡ false → page_at new d x ≡ page_at old d x
  pub fresh : (d x : ℕ) → d ≤ 4 → page_at old d x ≡ 0 → page_at new d x ≢ 0 → IsTaken before after (page_at new d x)
  -- what stands on pages that were there stays
  pub contents : (p o : ℕ) → o < PAGE_WORDS → page_at old 4 p ≢ 0 → word new (page_at old 4 p * PAGE_WORDS + o) ≡ word old (page_at old 4 p * PAGE_WORDS + o)
  pub agrees : Agrees new after
  pub taken : length after.free + missing old wants ≡ length before.free + missing new wants

-- no step is a fence
abbrev pub AreFenceless : List Step → Type 0
AreFenceless [] = Unit {0}
AreFenceless (step ∷ steps) = (is_fence step ≡ false) × AreFenceless steps

-- the history goes on without a fence
pub record WaitsNever (told now : Option History) : Type 0 where
  pub added : List Step
  pub goes_on : now ≡ with_steps added told
  pub none : AreFenceless added

-- the history goes on, with one fence as its last step
pub record WaitsOnce (told now : Option History) : Type 0 where
  pub added : List Step
  pub goes_on : now ≡ with_steps (Fence ∷ added) told
  pub none : AreFenceless added

-- What stands on the pages taken is written back, and so is what was before.
pub record Lasts (told now : Option History) (before after : FreePages) : Type 0 where
  pub back : (w : ℕ) → (FIRST_PAGE * PAGE_WORDS ≤ w) × IsTaken before after (w / PAGE_WORDS) → WrittenBack now (w / 8)
  pub still : (line : ℕ) → WrittenBack told line → WrittenBack now line
  pub plain : WaitsNever told now

-- Work that began at words with an empty root slot 2 and has made pages in it since: each page that was not there was
-- taken since, and what stands on the pages taken is written back.
pub record Begun (start now : List ℕ) (was told : Option History) (first frames : FreePages) : Type 0 where
  pub empty : word start (ROOT_WORD + STAGING_SLOT) ≡ 0
  pub works : Works (ROOT_WORD + STAGING_SLOT) start now was told first frames
  pub fresh : (d x : ℕ) → d ≤ 4 → page_at start d x ≡ 0 → page_at now d x ≢ 0 → IsTaken first frames (page_at now d x)
  pub back : (w : ℕ) → (FIRST_PAGE * PAGE_WORDS ≤ w) × IsTaken first frames (w / PAGE_WORDS) → WrittenBack told (w / 8)
  pub plain : WaitsNever was told

-- the words on virtual page n are these
abbrev pub Holds : List ℕ → ℕ → (ℕ → ℕ) → Type 0
Holds img n values = (page_at img 4 n ≢ 0) × ((k : ℕ) → k < PAGE_WORDS → word img (page_at img 4 n * PAGE_WORDS + k) ≡ values k)

-- the want of pages n, count of them
abbrev pub pages_from : ℕ → ℕ → List Want
pages_from n count = record { height = 0; at = n * PAGE_BYTES; len = count * PAGE_BYTES } ∷ []

-- Off root slot 2 all stays: pages 0 to 32, each byte, and each table and page. Cell (d + 1, x) is below root slot
-- x / TABLE_ENTRIES ^ d.
pub record SeesSame (old image : List ℕ) : Type 0 where
  pub head : (w : ℕ) → w < ROOT_PAGE * PAGE_WORDS → word image w ≡ word old w
  pub bytes : view image ≡ view old
  pub others : (v : ℕ) → v < ADDRESS_END → v / SLOT_SPAN ≢ STAGING_SLOT → byte image v ≡ byte old v
  pub cells : (d x : ℕ) → d ≤ 3 → x / TABLE_ENTRIES ^ d ≢ STAGING_SLOT → page_at image (suc d) x ≡ page_at old (suc d) x

-- Both gates are closed, root slot 2 is empty, and nothing is mapped off the partitions. Root slots 3 to 9 may be in use.
pub record IsResting (words : List ℕ) : Type 0 where
  pub shut : IsShut words
  pub unstaged : word words (ROOT_WORD + STAGING_SLOT) ≡ 0
  pub tables : AreTables words
  pub mapped : HoldsAt words mapped

-- What is left of that once pages are staged in root slot 2.
pub record IsLaid (words : List ℕ) : Type 0 where
  pub shut : IsShut words
  pub tables : AreTables words
  pub mapped : HoldsAt words mapped
