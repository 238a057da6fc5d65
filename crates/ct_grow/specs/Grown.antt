-- What growth of an object asks of an image, and what it leaves.
use Rattle.std.specs.Prelude.{◌≡◌, ◌≢◌, ℕ, ◌+◌, ◌-◌, ◌*◌, ◌/◌, ◌^◌, ◌<◌, ◌≤◌, ◌⊎◌, ◌==◌, true, false, if◌then◌else◌, List, [], length}
use Rattle.ct_base.specs.declared.inode.Inode.{Inode}
use Rattle.ct_base.specs.declared.layout.TheConstants.{INODE_BYTES, LEAST_INODES, MOST_INODES, NO_PARTITION, PAGE_BYTES, PAGE_WORDS, PARTITION_SLOT, ROOT_WORD, SLOT_SPAN, STAGING_SLOT, TABLE_ENTRIES, TOP_LEVEL}
use Rattle.ct_base.specs.Headers.{HeadersStand}
use Rattle.ct_base.specs.Inode.{inode, IsLive, IsIn, Partition, part_bytes, free_parts, live_parts}
use Rattle.ct_base.specs.Objects.{objects}
use Rattle.ct_base.specs.Plan.{exchange_height, growth_wants}
use Rattle.ct_base.specs.Rules.{Rule, number, HoldsAt, Owns, part_of}
use Rattle.ct_base.specs.Settled.{IsShut}
use Rattle.ct_base.specs.View.{view, inode_count}
use Rattle.ct_base.specs.Walk.{word, byte, walk, page_at, AreTables}
use Rattle.ct_base.specs.Wants.{is_wanted}
use Rattle.ct_header.specs.Drafted.{IsInHeader}

-- The tables are well formed, no call is under way, and the rules on inodes, partitions and headers hold.
pub record IsReady (img : List ℕ) : Type 0 where
  pub tables : AreTables img
  pub shut : IsShut img
  -- the staging slot of the calls
  pub unstaged : word img (ROOT_WORD + STAGING_SLOT) ≡ 0
  pub rules : (r : Rule) → number r ≤ 16 → HoldsAt img r
  pub inodes : (LEAST_INODES ≤ inode_count img) × (inode_count img ≤ MOST_INODES)

-- Object i may grow to a level: it has no partition or a smaller one, and one of the level is free.
pub record CanGrow (img : List ℕ) (i level : ℕ) : Type 0 where
  pub ready : IsReady img
  pub live : IsLive (view img) (inode_count img) i
  pub fits : level ≤ TOP_LEVEL
  pub more : ((inode (view img) i).level ≡ NO_PARTITION) ⊎ ((inode (view img) i).level < level)
  pub some : free_parts (live_parts (view img) (inode_count img)) level ≢ []

-- how many pages the partition of an inode has
abbrev pub pages_of : Inode → ℕ
pages_of f = if f.level == NO_PARTITION then 0 else 8 ^ f.level

-- the address is one of the words that tell where inode i has its bytes
abbrev pub IsPlace : ℕ → ℕ → Type 0
IsPlace i v = (INODE_BYTES * i + 16 ≤ v) × (v < INODE_BYTES * i + 32)

-- the address is one whose byte may become another when object i moves to a partition
abbrev pub MayMove : List ℕ → ℕ → Partition → ℕ → Type 0
MayMove img i p v =
    IsPlace i v ⊎ (IsInHeader p v ⊎ (Owns (view img) (inode_count img) i × (IsInHeader (part_of (view img) i) v ⊎ (IsIn (part_of (view img) i) v ⊎ IsIn (record { base = p.base; level = (inode (view img) i).level }) v))))

-- Object i has moved to a partition: no byte was copied, and all other objects stay.
pub record Promoted (old new : List ℕ) (i : ℕ) (p : Partition) : Type 0 where
  pub base : (inode (view new) i).base ≡ p.base
  pub level : (inode (view new) i).level ≡ p.level
  pub kind : (inode (view new) i).kind ≡ (inode (view old) i).kind
  pub size : (inode (view new) i).size ≡ (inode (view old) i).size
  -- each offset has the page that it had
  pub walks : Owns (view old) (inode_count old) i → (v : ℕ) → v < part_bytes (inode (view old) i).level
      → walk new (p.base + v) ≡ walk old ((inode (view old) i).base + v)
  pub content : (k : ℕ) → k < (inode (view old) i).size → view new (p.base + k) ≡ view old ((inode (view old) i).base + k)
  -- the partition that it had is empty
  pub given : Owns (view old) (inode_count old) i → (v : ℕ) → IsIn (part_of (view old) i) v → view new v ≡ 0
  pub headers : HeadersStand (view new) (live_parts (view new) (inode_count new))
  pub others : (v : ℕ) → (MayMove old i p v → ⊥) → view new v ≡ view old v
  pub objects : objects (view new) (inode_count new) ≡ objects (view old) (inode_count old)
  -- what is staged stays, and so do the superblock and the length
  pub staged_walks : (v : ℕ) → (STAGING_SLOT + 1) * SLOT_SPAN ≤ v → v < PARTITION_SLOT * SLOT_SPAN → walk new v ≡ walk old v
  pub staged_bytes : (v : ℕ) → (STAGING_SLOT + 1) * SLOT_SPAN ≤ v → v < PARTITION_SLOT * SLOT_SPAN → byte new v ≡ byte old v
  pub superblock : (w : ℕ) → w < PAGE_WORDS → word new w ≡ word old w
  pub length : length new ≡ length old

-- cell (4 - k, c) lies in so many bytes from an address on
abbrev pub IsCellIn : ℕ → ℕ → ℕ → ℕ → Type 0
IsCellIn from bytes k c = (from ≤ c * (PAGE_BYTES * TABLE_ENTRIES ^ k)) × (c * (PAGE_BYTES * TABLE_ENTRIES ^ k) < from + bytes)

-- What the cells of height k have after object i moved from its partition to another, which has exchange height h. A low cell
-- of the new partition has the page of the old one at the same offset; of low cells in the old partition nothing is said.
-- Any other cell keeps its page, and where it had none it has one only if it was wanted.
pub record CellsMoved (old new : List ℕ) (f : Inode) (p : Partition) : Type 0 where
  pub brought : (k c : ℕ) → f.level ≢ NO_PARTITION → k ≤ exchange_height f.level → IsCellIn p.base (part_bytes f.level) k c
      → page_at new (4 - k) c ≡ page_at old (4 - k) (c - p.base / (PAGE_BYTES * TABLE_ENTRIES ^ k) + f.base / (PAGE_BYTES * TABLE_ENTRIES ^ k))
  pub stays : (k c : ℕ) → k ≤ 4 → (f.level ≢ NO_PARTITION → k ≤ exchange_height f.level → IsCellIn p.base (part_bytes f.level) k c ⊎ IsCellIn f.base (part_bytes f.level) k c → ⊥)
      → page_at old (4 - k) c ≢ 0 → page_at new (4 - k) c ≡ page_at old (4 - k) c
  pub absent : (k c : ℕ) → k ≤ 4 → (f.level ≢ NO_PARTITION → k ≤ exchange_height f.level → IsCellIn p.base (part_bytes f.level) k c ⊎ IsCellIn f.base (part_bytes f.level) k c → ⊥)
      → page_at old (4 - k) c ≡ 0 → is_wanted (growth_wants f p) (4 - k) c ≡ false → page_at new (4 - k) c ≡ 0
  pub present : (k c : ℕ) → k ≤ 4 → (f.level ≢ NO_PARTITION → k ≤ exchange_height f.level → IsCellIn p.base (part_bytes f.level) k c ⊎ IsCellIn f.base (part_bytes f.level) k c → ⊥)
      → is_wanted (growth_wants f p) (4 - k) c ≡ true → page_at new (4 - k) c ≢ 0
