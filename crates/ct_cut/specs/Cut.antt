-- What a cut asks of an image, and what an image has after it.
use Rattle.std.specs.Prelude.{◌≡◌, ◌≢◌, ℕ, zero, suc, ◌+◌, ◌-◌, ◌*◌, ◌/◌, ◌<◌, ◌≤◌, ◌==◌, if◌then◌else◌, List, length}
use Rattle.ct_base.specs.declared.inode.Inode.{Inode}
use Rattle.ct_base.specs.declared.layout.TheConstants.{FILE_KIND, INODE_BYTES, NO_PARTITION, PAGE_BYTES, PAGE_WORDS, PARTITION_SLOT, SLOT_PAGES, SLOT_SPAN, STAGING_SLOT}
use Rattle.ct_base.specs.Headers.{HeadersStand}
use Rattle.ct_base.specs.Inode.{inode, IsIn, IsLive, live_parts, part_bytes}
use Rattle.ct_base.specs.Plan.{cut_wants, give_up_wants}
use Rattle.ct_base.specs.Rules.{part_of}
use Rattle.ct_base.specs.View.{view, inode_count}
use Rattle.ct_base.specs.Walk.{word, byte, page_at}
use Rattle.ct_base.specs.Wants.{Want}
use Rattle.ct_grow.specs.Grown.{IsReady}
use Rattle.ct_header.specs.Drafted.{IsInHeader}
use Rattle.ct_stage.specs.declared.edit.Given.TheVariants.{Same}
use Rattle.ct_commit.specs.Closed.{IsStateOr}
use Rattle.ct_write.specs.Written.{IsEdited}

-- The call may be made: the rules on inodes, partitions and headers hold, both gates are closed and root slot 2 is empty,
-- and the inode is a file that is longer.
pub record CanCut (img : List ℕ) (i len : ℕ) : Type 0 where
  pub ready : IsReady img
  pub live : IsLive (view img) (inode_count img) i
  pub file : (inode (view img) i).kind ≡ FILE_KIND
  pub less : len < (inode (view img) i).size

-- what a truncation to less asks for, by the plan
abbrev pub less_wants : Inode → ℕ → List Want
less_wants f len = if len == 0 then give_up_wants f else cut_wants f len

-- File i has a length that is not 0, and from there to its partition's end zeros; no other byte that is looked at is
-- another, but those of its size.
abbrev pub IsShorter : List ℕ → List ℕ → ℕ → ℕ → Type 0
IsShorter old new i len = IsEdited old new i len (part_bytes (inode (view old) i).level - len) (Same 0) len

-- the address is one of the size, the base or the level of inode i
abbrev pub IsExtent : ℕ → ℕ → Type 0
IsExtent i v = (INODE_BYTES * i + 8 ≤ v) × (v < INODE_BYTES * i + 32)

-- File i has no bytes and no partition. What was its partition is free and has zeros; of the other bytes that are looked at
-- only those of its inode and of the headers on the partition's path are others.
pub record IsEmptied (old new : List ℕ) (i : ℕ) : Type 0 where
  pub size : (inode (view new) i).size ≡ 0
  pub base : (inode (view new) i).base ≡ 0
  pub level : (inode (view new) i).level ≡ NO_PARTITION
  pub gone : (v : ℕ) → IsIn (part_of (view old) i) v → view new v ≡ 0
  pub headers : HeadersStand (view new) (live_parts (view new) (inode_count new))
  pub others : (v : ℕ) → (IsExtent i v → ⊥) → (IsInHeader (part_of (view old) i) v → ⊥) → (IsIn (part_of (view old) i) v → ⊥) → view new v ≡ view old v
  pub inodes : inode_count new ≡ inode_count old
  -- nothing is mapped under it; off it and root slot 2 each walk stays, and so does each byte of root slots 3 to 9
  pub unmapped : (q : ℕ) → IsIn (part_of (view old) i) (q * PAGE_BYTES) → page_at new 4 q ≡ 0
  pub pages : (q : ℕ) → q / SLOT_PAGES ≢ STAGING_SLOT → (IsIn (part_of (view old) i) (q * PAGE_BYTES) → ⊥) → page_at new 4 q ≡ page_at old 4 q
  pub staged : (v : ℕ) → (STAGING_SLOT + 1) * SLOT_SPAN ≤ v → v < PARTITION_SLOT * SLOT_SPAN → byte new v ≡ byte old v
  pub roots : (k : ℕ) → STAGING_SLOT + 1 ≤ k → k < PARTITION_SLOT → page_at new 1 k ≡ page_at old 1 k
  pub head : (w : ℕ) → w < PAGE_WORDS → word new w ≡ word old w
  pub length : length new ≡ length old

-- file i was cut to a length
abbrev pub IsCut : List ℕ → List ℕ → ℕ → ℕ → Type 0
IsCut old new i zero = IsEmptied old new i
IsCut old new i (suc len) = IsShorter old new i (suc len)

-- the image settles to the state before the cut or after it
abbrev pub IsCutOrNot : List ℕ → ℕ → ℕ → List ℕ → Type 0
IsCutOrNot words i len image = IsStateOr words (λ after. IsCut words after i len) image
