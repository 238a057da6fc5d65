-- What it takes to give up the partition of an object, and what an image has then.
use Rattle.std.specs.Prelude.{◌≡◌, ◌≢◌, ℕ, ◌*◌, ◌/◌, ◌^◌, ◌<◌, ◌≤◌, ◌++◌, ◌+◌, All, List, length}
use Rattle.ct_base.specs.declared.inode.Inode.{Inode}
use Rattle.ct_base.specs.declared.layout.TheConstants.{PAGE_BYTES, PAGE_WORDS, PARTITION_SLOT, SLOT_PAGES, SLOT_SPAN, STAGING_SLOT}
use Rattle.ct_base.specs.Exchange.{HasTables}
use Rattle.ct_base.specs.Inode.{IsIn, IsPart, Partition, part}
use Rattle.ct_base.specs.Pieces.{pieces}
use Rattle.ct_base.specs.Plan.{stage}
use Rattle.ct_base.specs.Settled.{Pair}
use Rattle.ct_base.specs.View.{view}
use Rattle.ct_base.specs.Walk.{word, byte, page_at, AreTables, IsFresh}
use Rattle.ct_header.specs.Drafted.{AreThere, IsInHeader, LeavesLive, NamesHeader}
use Rattle.ct_swap.specs.Swap.{swap_pairs}

-- the pieces in which a whole partition changes places with its staging range
abbrev pub whole_pieces : Inode → List (ℕ × ℕ)
whole_pieces f = pieces (f.base / PAGE_BYTES) (stage f.base / PAGE_BYTES) (8 ^ f.level)

-- The inode has a partition, its header words are there, no page is mapped in root slot 2, and on both sides each piece has
-- its table.
pub record CanGiveUp (img : List ℕ) (f : Inode) : Type 0 where
  pub placed : IsPart (part f)
  pub headers : AreThere img (part f)
  pub unmapped : (q : ℕ) → q / SLOT_PAGES ≡ STAGING_SLOT → page_at img 4 q ≡ 0
  pub tables : All (HasTables img (f.base / PAGE_BYTES) (stage f.base / PAGE_BYTES)) (whole_pieces f)

-- The partition is free: its bytes are 0, the headers stand for the partitions without it, and each other byte stays.
pub record GivesUp (old new : List ℕ) (p : Partition) : Type 0 where
  pub gone : (v : ℕ) → IsIn p v → view new v ≡ 0
  pub stand : LeavesLive p old new
  pub others : (v : ℕ) → (IsInHeader p v → ⊥) → (IsIn p v → ⊥) → view new v ≡ view old v
  -- nothing is mapped under it, and off it and root slot 2 each walk stays
  pub unmapped : (q : ℕ) → IsIn p (q * PAGE_BYTES) → page_at new 4 q ≡ 0
  pub pages : (q : ℕ) → q / SLOT_PAGES ≢ STAGING_SLOT → (IsIn p (q * PAGE_BYTES) → ⊥) → page_at new 4 q ≡ page_at old 4 q
  -- and so does each byte of root slots 3 to 9
  pub staged : (v : ℕ) → (STAGING_SLOT + 1) * SLOT_SPAN ≤ v → v < PARTITION_SLOT * SLOT_SPAN → byte new v ≡ byte old v
  -- and the table of each of them
  pub roots : (k : ℕ) → STAGING_SLOT + 1 ≤ k → k < PARTITION_SLOT → page_at new 1 k ≡ page_at old 1 k
  -- the same pages are reached
  pub fresh : (q : ℕ) → IsFresh old q → IsFresh new q
  pub reached : (q : ℕ) → IsFresh new q → IsFresh old q
  pub tables : AreTables new
  pub head : (w : ℕ) → w < PAGE_WORDS → word new w ≡ word old w
  pub size : length new ≡ length old

-- The pairs are those of the release and those of the exchange.
pub record AddsGiveUp (img : List ℕ) (f : Inode) (old new : List Pair) : Type 0 where
  pub released : List Pair
  pub goes_on : new ≡ swap_pairs img (f.base / PAGE_BYTES) (stage f.base / PAGE_BYTES) (whole_pieces f) ++ (released ++ old)
  pub each : All (λ pair. NamesHeader img (part f) pair.word) released
