-- What lengthening asks of an image, and what an image has after it.
use Rattle.std.specs.Prelude.{◌≡◌, ℕ, ◌+◌, ◌*◌, ◌<◌, ◌≤◌, ◌⊎◌, List, length}
use Rattle.ct_base.specs.declared.layout.TheConstants.{FILE_KIND, INODE_BYTES, PAGE_WORDS, PARTITION_SLOT, SLOT_SPAN, STAGING_SLOT, TOP_LEVEL}
use Rattle.ct_base.specs.Inode.{inode, IsLive, part_bytes}
use Rattle.ct_base.specs.View.{view, inode_count}
use Rattle.ct_base.specs.Walk.{word, byte, page_at}
use Rattle.ct_grow.specs.Grown.{IsReady}
use Rattle.ct_commit.specs.Closed.{IsStateOr}

-- The call may be made: the rules on inodes, partitions and headers hold, both gates are closed and root slot 2 is empty,
-- and the inode is a file that is shorter and whose partition holds the length.
pub record CanLengthen (img : List ℕ) (i len : ℕ) : Type 0 where
  pub ready : IsReady img
  pub live : IsLive (view img) (inode_count img) i
  pub file : (inode (view img) i).kind ≡ FILE_KIND
  pub level : (inode (view img) i).level ≤ TOP_LEVEL
  pub more : (inode (view img) i).size < len
  pub fits : len ≤ part_bytes (inode (view img) i).level

-- File i has the length, and all else is as it was.
pub record IsLengthened (old new : List ℕ) (i len : ℕ) : Type 0 where
  pub size : (inode (view new) i).size ≡ len
  pub bytes : (v : ℕ) → (v < INODE_BYTES * i + 8) ⊎ (INODE_BYTES * i + 16 ≤ v) → view new v ≡ view old v
  pub inodes : inode_count new ≡ inode_count old
  pub pages : (d x : ℕ) → d ≤ 4 → page_at new d x ≡ page_at old d x
  pub staged : (v : ℕ) → STAGING_SLOT * SLOT_SPAN ≤ v → v < PARTITION_SLOT * SLOT_SPAN → byte new v ≡ byte old v
  pub head : (w : ℕ) → w < PAGE_WORDS → word new w ≡ word old w
  pub length : length new ≡ length old

-- the image settles to the state before or after
abbrev pub IsLengthenedOrNot : List ℕ → ℕ → ℕ → List ℕ → Type 0
IsLengthenedOrNot words i len image = IsStateOr words (λ after. IsLengthened words after i len) image
