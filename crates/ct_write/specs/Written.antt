-- What a write gives, and what an image has after it.
use Rattle.std.specs.Prelude.{◌≡◌, ◌≢◌, ℕ, ◌+◌, ◌*◌, ◌/◌, ◌<◌, ◌≤◌, ◌⊎◌, max, List, length, replicate}
use Rattle.ct_base.specs.declared.inode.Inode.{Inode}
use Rattle.ct_base.specs.declared.layout.TheConstants.{FILE_KIND, INODE_BYTES, PAGE_BYTES, PAGE_WORDS, PARTITION_SLOT, SLOT_PAGES, SLOT_SPAN, STAGING_SLOT, TOP_LEVEL}
use Rattle.ct_base.specs.Inode.{inode, IsLive, part_bytes}
use Rattle.ct_base.specs.Plan.{stage, touched}
use Rattle.ct_base.specs.View.{view, inode_count}
use Rattle.ct_base.specs.Walk.{word, byte, page_at}
use Rattle.ct_grow.specs.Grown.{IsReady}
use Rattle.ct_stage.specs.declared.edit.Edit.{Edit}
use Rattle.ct_stage.specs.declared.edit.Given.{Given}
use Rattle.ct_stage.specs.declared.edit.Given.TheVariants.{Same, Listed}
use Rattle.ct_stage.specs.Edited.{edited}
use Rattle.ct_commit.specs.Closed.{IsStateOr}
use Rattle.ct_write.specs.declared.data.Data.{Data}
use Rattle.ct_write.specs.declared.data.Data.TheVariants.{Bytes, Fill}

abbrev pub data_len : Data → ℕ
data_len (Bytes bytes) = length bytes.now
data_len (Fill len byte) = len

abbrev pub data_given : Data → Given
data_given (Bytes bytes) = Listed bytes
data_given (Fill len byte) = Same byte

-- the bytes, as a tree has them
abbrev pub data_bytes : Data → List ℕ
data_bytes (Bytes bytes) = bytes.now
data_bytes (Fill len byte) = replicate len byte

-- the first virtual page that is touched at an offset of an object, and the first page in staging
abbrev pub side_page : Inode → ℕ → ℕ
side_page f off = (f.base + off) / PAGE_BYTES

abbrev pub stage_page : Inode → ℕ → ℕ
stage_page f off = stage (f.base + off) / PAGE_BYTES

-- the new bytes, by their addresses
abbrev pub edit_of : Inode → ℕ → ℕ → Given → Edit
edit_of f off len given = record { from = f.base + off; to = f.base + off + len; given = given }

-- The call may be made: the rules on inodes, partitions and headers hold, both gates are closed and root slot 2 is empty,
-- and the inode is a file whose partition holds the end.
pub record CanWrite (img : List ℕ) (i off len : ℕ) : Type 0 where
  pub ready : IsReady img
  pub live : IsLive (view img) (inode_count img) i
  pub file : (inode (view img) i).kind ≡ FILE_KIND
  pub level : (inode (view img) i).level ≤ TOP_LEVEL
  pub some : 1 ≤ len
  pub fits : off + len ≤ part_bytes (inode (view img) i).level

-- File i has new bytes from an offset of its partition on and this size, and no other byte that is looked at is another, but
-- those of its size.
pub record IsEdited (old new : List ℕ) (i off len : ℕ) (given : Given) (total : ℕ) : Type 0 where
  pub bytes : (v : ℕ) → (v < INODE_BYTES * i + 8) ⊎ (INODE_BYTES * i + 16 ≤ v) → view new v ≡ edited (view old) (edit_of (inode (view old) i) off len given) v
  pub size : (inode (view new) i).size ≡ total
  pub inodes : inode_count new ≡ inode_count old
  -- off the touched pages and off root slot 2 each walk stays
  pub pages : (p : ℕ) → p / SLOT_PAGES ≢ STAGING_SLOT → (p < side_page (inode (view old) i) off) ⊎ (side_page (inode (view old) i) off + touched off len ≤ p) → page_at new 4 p ≡ page_at old 4 p
  -- and so does each byte of root slots 3 to 9
  pub staged : (v : ℕ) → (STAGING_SLOT + 1) * SLOT_SPAN ≤ v → v < PARTITION_SLOT * SLOT_SPAN → byte new v ≡ byte old v
  pub roots : (k : ℕ) → STAGING_SLOT + 1 ≤ k → k < PARTITION_SLOT → page_at new 1 k ≡ page_at old 1 k
  pub head : (w : ℕ) → w < PAGE_WORDS → word new w ≡ word old w
  pub length : length new ≡ length old

-- a write gives the file the size in which it ends, where that is more
abbrev pub size_after : List ℕ → ℕ → ℕ → ℕ → ℕ
size_after img i off len = max (inode (view img) i).size (off + len)

-- file i has the bytes of a write from an offset on
abbrev pub IsWritten : List ℕ → List ℕ → ℕ → ℕ → ℕ → Given → Type 0
IsWritten old new i off len given = IsEdited old new i off len given (size_after old i off len)

-- the image settles to the state before the write or after it
abbrev pub IsBeforeOrAfter : List ℕ → ℕ → ℕ → ℕ → Given → List ℕ → Type 0
IsBeforeOrAfter words i off len given image = IsStateOr words (λ after. IsWritten words after i off len given) image
