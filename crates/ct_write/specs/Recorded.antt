-- What the record of a write asks for, and what it does.
use Rattle.std.specs.Prelude.{◌≡◌, ◌≢◌, ℕ, ◌+◌, ◌*◌, ◌/◌, ◌<◌, ◌≤◌, ◌⊎◌, All, List, length}
use Rattle.ct_base.specs.declared.layout.TheConstants.{ADDRESS_END, INODE_BYTES, MOST_INODES, PAGE_BYTES, PAGE_WORDS, PARTITION_SLOT, SLOT_PAGES, STAGING_SLOT}
use Rattle.ct_base.specs.Exchange.{Exchanged, HasTables}
use Rattle.ct_base.specs.Pieces.{pieces}
use Rattle.ct_base.specs.Walk.{word, byte, page_at, AreTables}
use Rattle.ct_words.specs.Shown.{shown_word}

-- the device word lies on no page from root slot 2 on
abbrev pub IsBare : List ℕ → ℕ → Type 0
IsBare img w = (q : ℕ) → STAGING_SLOT * SLOT_PAGES ≤ q → page_at img 4 q ≢ w / PAGE_WORDS

-- The size of inode i becomes another, and no other byte.
pub record Sized (old new : List ℕ) (i len : ℕ) : Type 0 where
  pub tables : AreTables new
  pub cells : (d x : ℕ) → d ≤ 4 → page_at new d x ≡ page_at old d x
  pub is : shown_word new (INODE_BYTES * i + 8) ≡ len
  pub bytes : (v : ℕ) → v < ADDRESS_END → (v < INODE_BYTES * i + 8) ⊎ (INODE_BYTES * i + 16 ≤ v) → byte new v ≡ byte old v
  pub head : (w : ℕ) → w < PAGE_WORDS → word new w ≡ word old w
  pub size : length new ≡ length old

-- Pages a and on have changed places with pages b and on, n of them, and the size of inode i is this.
pub record Recorded (old new : List ℕ) (i a b n size : ℕ) : Type 0 where
  pub middle : List ℕ
  pub exchanged : Exchanged old middle a b n
  pub head : (w : ℕ) → w < PAGE_WORDS → word middle w ≡ word old w
  pub sized : Sized middle new i size

-- The record can be made: the inode is there with its size, the first pages lie from root slot 10 on and the others in slot
-- 2, and so do the tables of each piece.
pub record CanRecord (img : List ℕ) (i a b n len : ℕ) : Type 0 where
  pub from : 1 ≤ i
  pub to : i ≤ MOST_INODES
  pub there : page_at img 4 (INODE_BYTES * i / PAGE_BYTES) ≢ 0
  pub was : shown_word img (INODE_BYTES * i + 8) ≡ len
  pub some : 1 ≤ n
  pub first_from : PARTITION_SLOT * SLOT_PAGES ≤ a
  pub first_to : a + n ≤ ADDRESS_END / PAGE_BYTES
  pub second_from : STAGING_SLOT * SLOT_PAGES ≤ b
  pub second_to : b + n ≤ (STAGING_SLOT + 1) * SLOT_PAGES
  pub tables : All (HasTables img a b) (pieces a b n)
  pub few : length (pieces a b n) ≤ 2555
