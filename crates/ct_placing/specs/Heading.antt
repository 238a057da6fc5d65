-- What a look at the words of root slot 1 that are not 0 has to show.
use Rattle.std.specs.Prelude.{◌≡◌, ◌≢◌, ℕ, ◌+◌, ◌-◌, ◌*◌, ◌/◌, ◌%◌, ◌^◌, ◌<◌, ◌≤◌, List, true}
use Rattle.std.specs.Int.{w64, to_le_bytes}
use Rattle.ct_base.specs.declared.layout.TheConstants.{PARTITION_SLOT, SLOT_SPAN, TOP_LEVEL}
use Rattle.ct_base.specs.Headers.{is_one}
use Rattle.ct_base.specs.Inode.{Partition, inode, little, live_parts, number_of}
use Rattle.ct_base.specs.Published.{IsRightWord}
use Rattle.ct_base.specs.Ranges.{byte_shown, header_at, summary}
use Rattle.ct_base.specs.Rules.{part_of}
use Rattle.ct_base.specs.View.{inode_count, view}

-- each header word that is not 0 is right, the slots that hold no partition are shown so, and no other word is set
pub record LooksRight (word_at : ℕ → ℕ) : Type 0 where
  pub right : (n j : ℕ) → n ≤ TOP_LEVEL → j < 64 * 8 ^ (TOP_LEVEL - n) → word_at (header_at (n + 1) j) ≢ 0 → IsRightWord word_at n j
  pub slots : (j : ℕ) → j < PARTITION_SLOT → byte_shown word_at TOP_LEVEL j ≡ 48
  pub rest : (a : ℕ) → a / SLOT_SPAN ≡ 1 → a % 8 ≡ 0 → ((n j : ℕ) → n ≤ TOP_LEVEL → j < 64 * 8 ^ (TOP_LEVEL - n) → a ≢ header_at (n + 1) j) → word_at a ≡ 0

-- the word at an address that is looked at
abbrev pub word_of : List ℕ → ℕ → ℕ
word_of img a = little (view img) a 8

abbrev pub byte_of : List ℕ → ℕ → ℕ → ℕ
byte_of img n c = byte_shown (word_of img) n c

-- the partitions of the live inodes
abbrev pub parts_of : List ℕ → List Partition
parts_of img = live_parts (view img) (inode_count img)

-- the byte of range (n, c) agrees with the word of its children
pub record IsRightByte (word_at : ℕ → ℕ) (n c : ℕ) : Type 0 where
  pub lowest : n ≡ 0 → byte_shown word_at n c ≢ 16 → byte_shown word_at n c ≡ 0
  pub itself : 1 ≤ n → byte_shown word_at n c ≡ 16 → word_at (header_at n c) ≡ 0
  pub others : 1 ≤ n → byte_shown word_at n c ≢ 16 → (n ≡ TOP_LEVEL → PARTITION_SLOT ≤ c) → byte_shown word_at n c ≡ summary (n - 1) (to_le_bytes w64 (word_at (header_at n c)))

-- and it is 16 for a partition of the list alone
pub record IsRightChild (word_at : ℕ → ℕ) (ps : List Partition) (n c : ℕ) : Type 0 where
  pub byte : IsRightByte word_at n c
  pub live : byte_shown word_at n c ≡ 16 → is_one ps n c ≡ true

-- the word above the ranges 8 j to 8 j + 7 of level n agrees with the byte above it, if there is one
pub record IsRightBelow (word_at : ℕ → ℕ) (n j : ℕ) : Type 0 where
  pub slot : n ≡ 8 → PARTITION_SLOT ≤ j
  pub above : n ≤ 8 → byte_shown word_at (n + 1) j ≡ summary n (to_le_bytes w64 (word_at (header_at (n + 1) j)))

-- the word above these ranges agrees with what stands above and below it
pub record IsRightHeader (word_at : ℕ → ℕ) (ps : List Partition) (n j : ℕ) : Type 0 where
  pub below : IsRightBelow word_at n j
  pub children : (c : ℕ) → c / 8 ≡ j → IsRightChild word_at ps n c

-- the header word of range (n + 1, j) stands at the address
pub record IsRangeAt (a n j : ℕ) : Type 0 where
  pub level : n ≤ TOP_LEVEL
  pub number : j < 64 * 8 ^ (TOP_LEVEL - n)
  pub is : a ≡ header_at (n + 1) j

-- a header word stands at the address, and is right
pub record IsHeader (word_at : ℕ → ℕ) (ps : List Partition) (a : ℕ) : Type 0 where
  pub level : ℕ
  pub number : ℕ
  pub place : IsRangeAt a level number
  pub right : IsRightHeader word_at ps level number

-- each word of root slot 1 from an address on, and before another, is 0 or a header word that is right
abbrev pub AreHeaderWords : (ℕ → ℕ) → List Partition → ℕ → ℕ → Type 0
AreHeaderWords word_at ps from to = (a : ℕ) → from ≤ a → a < to → a % 8 ≡ 0 → word_at a ≢ 0 → IsHeader word_at ps a

-- the byte of an inode's partition is 16, where it is live and has one
abbrev pub IsPartShown : List ℕ → ℕ → Type 0
IsPartShown img i = (inode (view img) i).kind ≢ 0 → (inode (view img) i).level ≤ TOP_LEVEL → byte_of img (inode (view img) i).level (number_of (part_of (view img) i)) ≡ 16
