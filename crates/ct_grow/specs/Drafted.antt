-- What the pairs of one growth do.
use Rattle.std.specs.Prelude.{◌≡◌, ◌≢◌, ℕ, ◌+◌, ◌-◌, ◌*◌, ◌/◌, ◌%◌, ◌^◌, ◌<◌, ◌≤◌, ◌⊎◌, ◌==◌, true, if◌then◌else◌, List, ◌∷◌, Contains, length}
use Rattle.ct_base.specs.declared.inode.Inode.{Inode}
use Rattle.ct_base.specs.declared.layout.TheConstants.{ADDRESS_END, INODE_BYTES, MOST_INODES, NO_PARTITION, PAGE_BYTES, PAGE_WORDS, TABLE_ENTRIES}
use Rattle.ct_base.specs.Exchange.{Exchanged}
use Rattle.ct_base.specs.Headers.{StandFor, is_one, without}
use Rattle.ct_base.specs.Inode.{Partition, IsPart, AreApart, part, number_of, is_free}
use Rattle.ct_base.specs.Plan.{exchange_height}
use Rattle.ct_base.specs.Published.{header_words}
use Rattle.ct_base.specs.Settled.{Pair, Named}
use Rattle.ct_base.specs.View.{view}
use Rattle.ct_base.specs.Walk.{word, byte, page_at, AreTables}
use Rattle.ct_base.specs.Words.{word_at, place_at}
use Rattle.ct_grow.specs.Grown.{pages_of}

-- the partitions after an inode took another in place of its own
abbrev pub parts_after : Inode → Partition → List Partition → List Partition
parts_after f p ps = if f.level == NO_PARTITION then p ∷ ps else without (part f) (p ∷ ps)

-- the address is that of a header word on the path of the new partition or of the old one
abbrev pub IsOnPaths : Inode → Partition → ℕ → Type 0
IsOnPaths f p a = Contains (header_words p) a ⊎ ((f.level ≢ NO_PARTITION) × Contains (header_words (part f)) a)

-- the address is such a one, or that of the base or the level of inode i
abbrev pub IsWritten : ℕ → Inode → Partition → ℕ → Type 0
IsWritten i f p a = IsOnPaths f p a ⊎ ((a ≡ INODE_BYTES * i + 16) ⊎ (a ≡ INODE_BYTES * i + 24))

-- the device word is the place of a word of mapped pages whose address passes
pub record NamesPlace (img : List ℕ) (On : ℕ → Type 0) (w : ℕ) : Type 0 where
  pub address : ℕ
  pub on : On address
  pub aligned : address % 8 ≡ 0
  pub there : page_at img 4 (address / PAGE_BYTES) ≢ 0
  pub is : w ≡ place_at img address

-- each of the pairs names such a word
pub record NamePlaces (img : List ℕ) (On : ℕ → Type 0) (pairs : List Pair) : Type 0 where
  pub each : (w : ℕ) → Named pairs w → NamesPlace img On w

-- The headers and the inode have moved, and no other word by address.
pub record Places (old new : List ℕ) (i : ℕ) (f : Inode) (p : Partition) : Type 0 where
  pub stand : (ps : List Partition) → StandFor (view old) ps → is_free ps p ≡ true → (f.level ≢ NO_PARTITION → is_one ps f.level (number_of (part f)) ≡ true) → StandFor (view new) (parts_after f p ps)
  pub base : word_at new (INODE_BYTES * i + 16) ≡ p.base
  pub level : word_at new (INODE_BYTES * i + 24) ≡ p.level
  pub tables : AreTables new
  pub cells : (d x : ℕ) → d ≤ 4 → page_at new d x ≡ page_at old d x
  pub bytes : (v : ℕ) → v < ADDRESS_END → ((a : ℕ) → IsWritten i f p a → v / 8 ≢ a / 8) → byte new v ≡ byte old v
  pub superblock : (w : ℕ) → w < PAGE_WORDS → word new w ≡ word old w
  pub size : length new ≡ length old

-- And the pages of the old partition have changed places with the first of the new one.
pub record Moves (old new : List ℕ) (i : ℕ) (f : Inode) (p : Partition) : Type 0 where
  pub middle : List ℕ
  pub places : Places old middle i f p
  pub exchanged : Exchanged middle new (f.base / PAGE_BYTES) (p.base / PAGE_BYTES) (pages_of f)
  pub superblock : (w : ℕ) → w < PAGE_WORDS → word new w ≡ word old w

-- The old partition is a smaller one that does not meet the new one, its headers are there, and so are the tables of each side.
pub record HasOld (img : List ℕ) (f : Inode) (p : Partition) : Type 0 where
  pub own : IsPart (part f)
  pub smaller : f.level < p.level
  pub apart : AreApart p (part f)
  pub there : (a : ℕ) → Contains (header_words (part f)) a → page_at img 4 (a / PAGE_BYTES) ≢ 0
  pub first : page_at img (3 - exchange_height f.level) (f.base / PAGE_BYTES / TABLE_ENTRIES ^ (exchange_height f.level + 1)) ≢ 0
  pub second : page_at img (3 - exchange_height f.level) (p.base / PAGE_BYTES / TABLE_ENTRIES ^ (exchange_height f.level + 1)) ≢ 0

-- The object may move: its inode and all headers are there, and the tables between whose entries it moves.
pub record CanMove (img : List ℕ) (i : ℕ) (f : Inode) (p : Partition) : Type 0 where
  pub from : 1 ≤ i
  pub to : i ≤ MOST_INODES
  pub inode_there : page_at img 4 (INODE_BYTES * i / PAGE_BYTES) ≢ 0
  pub new : IsPart p
  pub new_there : (a : ℕ) → Contains (header_words p) a → page_at img 4 (a / PAGE_BYTES) ≢ 0
  pub has : f.level ≢ NO_PARTITION → HasOld img f p
