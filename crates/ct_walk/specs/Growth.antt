-- What an image has after pages of wants were made, and what the work that makes them does.
use Rattle.std.specs.Prelude.{◌≡◌, ◌≢◌, ℕ, suc, ◌+◌, ◌*◌, ◌/◌, ◌^◌, ◌-◌, ◌<◌, ◌≤◌, ◌⊎◌, true, false, List, length, Contains, Option}
use Rattle.ct_base.specs.declared.layout.TheConstants.{ADDRESS_END, PAGE_WORDS, ROOT_WORD, TABLE_ENTRIES}
use Rattle.ct_base.specs.Walk.{word, page_at, byte, AreTables}
use Rattle.ct_base.specs.Wants.{Want, is_wanted, missing}
use Rattle.ct_frames.specs.Free.{FreePages}
use Rattle.ct_frames.specs.Agrees.{Agrees}
use Rattle.ct_pm.specs.Images.{History}
use Rattle.ct_pm.specs.Device.{LeavesOnly, MakesOnly, NothingPending}

-- the page was free before and is not after
pub record IsTaken (before after : FreePages) (page : ℕ) : Type 0 where
  pub was : Contains before.free page
  pub gone : Contains after.free page → ⊥

-- the word is the entry of a wanted cell in a table that is there, and it is 0
pub record IsGap (img : List ℕ) (wants : List Want) (w : ℕ) : Type 0 where
  pub depth : ℕ
  pub number : ℕ
  pub index : ℕ
  pub few : depth ≤ 3
  pub small : index < TABLE_ENTRIES
  pub there : page_at img depth number ≢ 0
  pub wanted : is_wanted wants (suc depth) (number * TABLE_ENTRIES + index) ≡ true
  pub is : w ≡ page_at img depth number * PAGE_WORDS + index
  pub none : word img w ≡ 0

-- The tables of new are those of old with more pages, for wanted cells alone and out of those that were taken: each byte
-- stays, and off the pages taken only entries that were 0 differ.
pub record Grown (old new : List ℕ) (wants : List Want) (before after : FreePages) : Type 0 where
  pub tables : AreTables new
  pub walks : (d x : ℕ) → d ≤ 4 → page_at old d x ≢ 0 → page_at new d x ≡ page_at old d x
  pub cells : (d x : ℕ) → d ≤ 4 → is_wanted wants d x ≡ false → page_at new d x ≡ page_at old d x
  pub fresh : (d x : ℕ) → d ≤ 4 → page_at old d x ≡ 0 → page_at new d x ≢ 0 → IsTaken before after (page_at new d x)
  pub bytes : (v : ℕ) → v < ADDRESS_END → byte new v ≡ byte old v
  -- the superblock and the redo record stay
  pub low : (w : ℕ) → w < ROOT_WORD → word new w ≡ word old w
  pub rest : (w : ℕ) → (IsTaken before after (w / PAGE_WORDS) → ⊥) → (IsGap old wants w → ⊥) → word new w ≡ word old w
  pub size : length new ≡ length old

-- the word lies on a page that was taken, or is such an entry
abbrev pub MayGrow : List ℕ → List Want → FreePages → FreePages → ℕ → Type 0
MayGrow img wants before after w = IsTaken before after (w / PAGE_WORDS) ⊎ IsGap img wants w

-- Work that makes pages of wants, whether it is done or broke off. It stores in those places alone; the words as they
-- read, and each image that a crash on the way may leave, have grown from the words at entry.
pub record Extends (wants : List Want) (old new : List ℕ) (told now : Option History) (before after : FreePages) : Type 0 where
  pub grown : Grown old new wants before after
  pub images : NothingPending told → LeavesOnly told now (λ image. Grown old image wants before after)
  pub made : MakesOnly (λ at put. MayGrow old wants before after at) told now
  pub left : (q : ℕ) → Contains after.free q → Contains before.free q

-- Such work that is done took as many pages as fewer are missing now, and left nothing pending.
pub record IsDone (wants : List Want) (old new : List ℕ) (told now : Option History) (before after : FreePages) : Type 0 where
  pub agrees : Agrees new after
  pub taken : length after.free + missing old wants ≡ length before.free + missing new wants
  pub settled : NothingPending told → NothingPending now

-- the cells on the way to virtual page n, from depth 1 to end, are wanted
abbrev pub Covers : List Want → ℕ → ℕ → Type 0
Covers wants n end = (d : ℕ) → 1 ≤ d → d ≤ end → is_wanted wants d (n / TABLE_ENTRIES ^ (4 - d)) ≡ true
