-- The rules that an image meets on which a tree stands. Each says what holds where the rule does not fail.
use Rattle.std.specs.Prelude.{◌≡◌, ◌≢◌, ℕ, suc, ◌+◌, ◌-◌, ◌*◌, ◌%◌, ◌^◌, ◌<◌, ◌≤◌, ◌⊎◌, List, true}
use Rattle.ct_base.specs.Walk.{word, page_at, next}
use Rattle.ct_base.specs.View.{is_seen, view, inode_count}
use Rattle.ct_base.specs.Inode.{inode, inode_word, Inode, IsNumber, IsLive, Partition, part, part_bytes, IsIn, IsPart, AreApart, live_parts}
use Rattle.ct_base.specs.Headers.{HeadersStand}
use Rattle.ct_base.specs.Objects.{Object, objects}
use Rattle.ct_base.specs.Slots.{IsSlot, Names, Steps, slot_inode, slot_length, slot_name}
use Rattle.ct_base.specs.Path.{is_name}
use Rattle.ct_base.specs.declared.layout.TheConstants.{DIRECTORY_KIND, ENTRY_BYTES, INODE_BYTES, NO_PARTITION, PAGE_BYTES, PARTITION_SLOT, SLOT_PAGES, SLOT_SPAN, TABLE_ENTRIES, TOP_LEVEL}

-- cell (d, x) is the root, or lies in a root slot other than 2 to 9
abbrev pub IsSeen : ℕ → ℕ → Type 0
IsSeen d x = is_seen (x * (PAGE_BYTES * TABLE_ENTRIES ^ (4 - d))) ≡ true

-- rule 8: an entry that is met is 0 or names a page
abbrev pub EntriesName : List ℕ → Type 0
EntriesName img =
    (d x i : ℕ) → d ≤ 3 → i < TABLE_ENTRIES → IsSeen (suc d) (x * TABLE_ENTRIES + i) → page_at img d x ≢ 0 → next img (page_at img d x) i ≡ 0 → word img (page_at img d x * TABLE_ENTRIES + i) ≡ 0

-- rule 9: no page is reached twice
abbrev pub ReachesOnce : List ℕ → Type 0
ReachesOnce img =
    (d x e y : ℕ) → d ≤ 4 → e ≤ 4 → IsSeen d x → IsSeen e y → page_at img d x ≢ 0 → page_at img d x ≡ page_at img e y → (d ≡ e) × (x ≡ y)

-- rule 10: kinds and spare words
pub record IsInode (b : ℕ → ℕ) (i : ℕ) : Type 0 where
  pub kind : (inode b i).kind ≤ 2
  pub free : (k : ℕ) → k < 8 → (inode b i).kind ≡ 0 → inode_word b i k ≡ 0
  pub spare : (k : ℕ) → 4 ≤ k → k < 8 → inode_word b i k ≡ 0
  pub root : i ≡ 1 → (inode b i).kind ≡ 2

abbrev pub AreInodes : (ℕ → ℕ) → ℕ → Type 0
AreInodes b count = (i : ℕ) → IsNumber count i → IsInode b i

-- rule 11: a live inode has no partition and no bytes, or one that is large enough
pub record HasNone (f : Inode) : Type 0 where
  pub level : f.level ≡ NO_PARTITION
  pub base : f.base ≡ 0
  pub size : f.size ≡ 0

pub record HasRoom (f : Inode) : Type 0 where
  pub part : IsPart (part f)
  pub size : f.size ≤ part_bytes f.level

pub record IsPlaced (f : Inode) : Type 0 where
  pub place : HasNone f ⊎ HasRoom f
  pub slots : f.kind ≡ DIRECTORY_KIND → f.size % ENTRY_BYTES ≡ 0

abbrev pub ArePlaced : (ℕ → ℕ) → ℕ → Type 0
ArePlaced b count = (i : ℕ) → IsLive b count i → IsPlaced (inode b i)

-- an inode that is live and has a partition
pub record Owns (b : ℕ → ℕ) (count i : ℕ) : Type 0 where
  pub live : IsLive b count i
  pub level : (inode b i).level ≤ TOP_LEVEL

abbrev pub part_of : (ℕ → ℕ) → ℕ → Partition
part_of b i = part (inode b i)

-- rule 12: two partitions do not meet
abbrev pub ArePartsApart : (ℕ → ℕ) → ℕ → Type 0
ArePartsApart b count = (i j : ℕ) → Owns b count i → Owns b count j → i ≢ j → AreApart (part_of b i) (part_of b j)

-- rule 13: the bytes past a size are 0
abbrev pub AreTailsZero : (ℕ → ℕ) → ℕ → Type 0
AreTailsZero b count = (i : ℕ) → Owns b count i → (k : ℕ) → (inode b i).size ≤ k → k < part_bytes (inode b i).level → b ((inode b i).base + k) ≡ 0

-- rule 14: a page in root slots 10 to 511 is mapped in a partition alone
abbrev pub IsMappedInParts : List ℕ → (ℕ → ℕ) → ℕ → Type 0
IsMappedInParts img b count =
    (p : ℕ) → PARTITION_SLOT * SLOT_PAGES ≤ p → ((i : ℕ) → Owns b count i → IsIn (part_of b i) (p * PAGE_BYTES) → ⊥) → page_at img 4 p ≡ 0

-- rule 15: the bytes of root slot 1 are the headers of the partitions
abbrev pub AreHeaders : (ℕ → ℕ) → ℕ → Type 0
AreHeaders b count = HeadersStand b (live_parts b count)

-- rule 16: root slot 0 has nothing beside the inodes
abbrev pub IsRestZero : (ℕ → ℕ) → ℕ → Type 0
IsRestZero b count = (v : ℕ) → v < SLOT_SPAN → (v < INODE_BYTES) ⊎ (INODE_BYTES * (count + 1) ≤ v) → b v ≡ 0

-- rule 17: a slot names a live inode, by a name
pub record IsEntry (fs : ℕ → Object) (f : Object) (o : ℕ) : Type 0 where
  pub live : (fs (slot_inode f o)).kind ≢ 0
  pub length : slot_length f o ≤ 248
  pub name : is_name (slot_name f o) ≡ true
  pub padding : (k : ℕ) → 8 + slot_length f o ≤ k → k < ENTRY_BYTES → f.at (o + k) ≡ 0

abbrev pub AreEntries : (ℕ → Object) → Type 0
AreEntries fs = (i o : ℕ) → IsSlot (fs i) o → IsEntry fs (fs i) o

-- rule 18: two slots of a directory have different names
abbrev pub AreNamesApart : (ℕ → Object) → Type 0
AreNamesApart fs = (i o k : ℕ) → IsSlot (fs i) o → IsSlot (fs i) k → slot_name (fs i) o ≡ slot_name (fs i) k → o ≡ k

-- rule 19: inode 1 has no name, and each other live inode has one
pub record IsNamedOnce (fs : ℕ → Object) (c : ℕ) : Type 0 where
  pub dir : ℕ
  pub slot : ℕ
  pub is : Names fs dir slot c
  pub only : (i o : ℕ) → Names fs i o c → (i ≡ dir) × (o ≡ slot)

pub record AreNamed (fs : ℕ → Object) : Type 0 where
  pub root : (i o : ℕ) → Names fs i o 1 → ⊥
  pub others : (c : ℕ) → (fs c).kind ≢ 0 → c ≢ 1 → IsNamedOnce fs c

-- rule 20: each live inode is reached from inode 1
abbrev pub AreReached : (ℕ → Object) → Type 0
AreReached fs = (c : ℕ) → (fs c).kind ≢ 0 → (k : ℕ) × Steps fs k c

-- the rules by name, and their numbers
pub data Rule : Type 0 where
  entries : Rule
  once : Rule
  inodes : Rule
  placed : Rule
  apart : Rule
  tails : Rule
  mapped : Rule
  headers : Rule
  rest : Rule
  slots : Rule
  names : Rule
  named : Rule
  reached : Rule

abbrev pub number : Rule → ℕ
number entries = 8
number once = 9
number inodes = 10
number placed = 11
number apart = 12
number tails = 13
number mapped = 14
number headers = 15
number rest = 16
number slots = 17
number names = 18
number named = 19
number reached = 20

abbrev pub Holds : List ℕ → (ℕ → ℕ) → ℕ → Rule → Type 0
Holds img b count entries = EntriesName img
Holds img b count once = ReachesOnce img
Holds img b count inodes = AreInodes b count
Holds img b count placed = ArePlaced b count
Holds img b count apart = ArePartsApart b count
Holds img b count tails = AreTailsZero b count
Holds img b count mapped = IsMappedInParts img b count
Holds img b count headers = AreHeaders b count
Holds img b count rest = IsRestZero b count
Holds img b count slots = AreEntries (objects b count)
Holds img b count names = AreNamesApart (objects b count)
Holds img b count named = AreNamed (objects b count)
Holds img b count reached = AreReached (objects b count)

abbrev pub HoldsAt : List ℕ → Rule → Type 0
HoldsAt img r = Holds img (view img) (inode_count img) r

-- none of the rules fails
abbrev pub Sound : List ℕ → Type 0
Sound img = (r : Rule) → HoldsAt img r

-- the rule is the first that fails
pub record FailsFirst (img : List ℕ) (r : Rule) : Type 0 where
  pub fails : HoldsAt img r → ⊥
  pub before : (s : Rule) → number s < number r → HoldsAt img s
