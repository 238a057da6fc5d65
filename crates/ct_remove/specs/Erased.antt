-- What the record of a removal does to the words.
use Rattle.std.specs.Prelude.{◌≡◌, ◌⊎◌, ℕ, ◌+◌, ◌*◌, ◌<◌, ◌≤◌, List, length}
use Rattle.ct_base.specs.declared.inode.Inode.{Inode}
use Rattle.ct_base.specs.Headers.{HeadersStand}
use Rattle.ct_base.specs.Inode.{IsIn, inode}
use Rattle.ct_base.specs.Rules.{Owns, part_of}
use Rattle.ct_base.specs.View.{view, inode_count}
use Rattle.ct_base.specs.Walk.{word, page_at, AreTables, IsFresh}
use Rattle.ct_base.specs.Words.{Rewrites, place_at}
use Rattle.ct_base.specs.declared.layout.TheConstants.{ENTRY_BYTES, ENTRY_WORDS, INODE_BYTES, PAGE_BYTES, PAGE_WORDS, PARTITION_SLOT, SLOT_PAGES, SLOT_SPAN, STAGING_SLOT}
use Rattle.ct_dir.specs.Packed.{empty_words}
use Rattle.ct_inode.specs.Drafted.{inode_words}
use Rattle.ct_pm.specs.Device.{IsIn as IsWordIn}
use Rattle.ct_state.proofs.Rebuilt.{parts_but}
use Rattle.ct_write.specs.Recorded.{IsBare}

-- the inode of no object
abbrev pub no_inode : Inode
no_inode = record { kind = 0; size = 0; base = 0; level = 0 }

-- the device word is one of the slot or of the inode
abbrev pub IsErased : List ℕ → ℕ → ℕ → ℕ → ℕ → Type 0
IsErased img base offset number word = IsWordIn (place_at img (base + offset)) ENTRY_WORDS word ⊎ IsWordIn (place_at img (INODE_BYTES * number)) 8 word

-- the words of a slot at an offset from the base of its directory become 0, and those of an inode do
pub record Erases (old new : List ℕ) (base offset number : ℕ) : Type 0 where
  pub middle : List ℕ
  pub slot : Rewrites old middle (base + offset) empty_words
  pub object : Rewrites middle new (INODE_BYTES * number) (inode_words no_inode)

-- the address is in no byte that a removal changes, but for the headers
pub record IsBeside (b : ℕ → ℕ) (count dir offset number v : ℕ) : Type 0 where
  pub side : (v < SLOT_SPAN) ⊎ (PARTITION_SLOT * SLOT_SPAN ≤ v)
  pub object : (v < INODE_BYTES * number) ⊎ (INODE_BYTES * number + INODE_BYTES ≤ v)
  pub slot : (v < (inode b dir).base + offset) ⊎ ((inode b dir).base + offset + ENTRY_BYTES ≤ v)
  pub part : Owns b count number → IsIn (part_of b number) v → ⊥

-- The slot at an offset of directory dir is empty, inode number is free, and what was its partition is: nothing is mapped there,
-- and the headers stand for the other partitions. All else that is looked at stays.
pub record Removes (old new : List ℕ) (dir offset number : ℕ) : Type 0 where
  pub slot : (k : ℕ) → k < ENTRY_BYTES → view new ((inode (view old) dir).base + offset + k) ≡ 0
  pub object : (k : ℕ) → k < INODE_BYTES → view new (INODE_BYTES * number + k) ≡ 0
  pub headers : HeadersStand (view new) (parts_but (view old) (inode_count old) number)
  pub others : (v : ℕ) → IsBeside (view old) (inode_count old) dir offset number v → view new v ≡ view old v
  pub unmapped : Owns (view old) (inode_count old) number → (q : ℕ) → IsIn (part_of (view old) number) (q * PAGE_BYTES) → page_at new 4 q ≡ 0
  pub pages : (q : ℕ) → PARTITION_SLOT * SLOT_PAGES ≤ q → (Owns (view old) (inode_count old) number → IsIn (part_of (view old) number) (q * PAGE_BYTES) → ⊥) → page_at new 4 q ≡ page_at old 4 q
  pub roots : (k : ℕ) → STAGING_SLOT + 1 ≤ k → k < PARTITION_SLOT → page_at new 1 k ≡ page_at old 1 k
  pub staging : (Owns (view old) (inode_count old) number → ⊥) → page_at new 1 STAGING_SLOT ≡ page_at old 1 STAGING_SLOT
  pub tables : AreTables new
  -- the same pages are reached
  pub fresh : (q : ℕ) → IsFresh old q → IsFresh new q
  pub reached : (q : ℕ) → IsFresh new q → IsFresh old q
  pub head : (w : ℕ) → w < PAGE_WORDS → word new w ≡ word old w
  pub size : length new ≡ length old

-- the device word is one that the record of a removal may name: of the slot, of the inode, or on no page from root slot 2 on
abbrev pub IsGone : List ℕ → ℕ → ℕ → ℕ → ℕ → Type 0
IsGone img base offset number word = IsErased img base offset number word ⊎ IsBare img word
