-- Inodes and their partitions, read from bytes by address.
use Rattle.std.specs.Prelude.{◌≡◌, ◌≢◌, ℕ, zero, suc, ◌+◌, ◌-◌, ◌*◌, ◌/◌, ◌%◌, ◌^◌, ◌<◌, ◌≤◌, ◌⊎◌, ◌==◌, nat_le, nat_lt, ◌&&◌, Bool, not, if◌then◌else◌, List, [], ◌∷◌}
pub use Rattle.ct_base.specs.declared.inode.Inode.{Inode}
use Rattle.ct_base.specs.declared.layout.TheConstants.{ADDRESS_END, INODE_BYTES, PAGE_BYTES, PARTITION_SLOT, SLOT_SPAN, TABLE_ENTRIES, TOP_LEVEL}

-- the number whose n bytes stand from an address on, the lowest first
unfoldable pub little : (ℕ → ℕ) → ℕ → ℕ → ℕ
little b v zero = 0
little b v (suc n) = b v + 256 * little b (v + 1) n

-- word k of inode i
abbrev pub inode_word : (ℕ → ℕ) → ℕ → ℕ → ℕ
inode_word b i k = little b (INODE_BYTES * i + 8 * k) 8

abbrev pub inode : (ℕ → ℕ) → ℕ → Inode
inode b i = record { kind = inode_word b i 0; size = inode_word b i 1; base = inode_word b i 2; level = inode_word b i 3 }

-- the inodes are numbered from 1
pub record IsNumber (count i : ℕ) : Type 0 where
  pub from : 1 ≤ i
  pub to : i ≤ count

pub record IsLive (b : ℕ → ℕ) (count i : ℕ) : Type 0 where
  pub number : IsNumber count i
  pub used : (inode b i).kind ≢ 0

-- a partition: a range of the level's length
pub record Partition : Type 0 where
  pub base : ℕ
  pub level : ℕ

abbrev pub part_bytes : ℕ → ℕ
part_bytes level = PAGE_BYTES * 8 ^ level

abbrev pub part_end : Partition → ℕ
part_end p = p.base + part_bytes p.level

abbrev pub part : Inode → Partition
part f = record { base = f.base; level = f.level }

abbrev pub has_part : Inode → Bool
has_part f = not (f.kind == 0) && nat_le f.level TOP_LEVEL

-- the partitions of the live inodes from 1 to n
unfoldable pub live_parts : (ℕ → ℕ) → ℕ → List Partition
live_parts b zero = []
live_parts b (suc i) = if has_part (inode b (suc i)) then part (inode b (suc i)) ∷ live_parts b i else live_parts b i

-- the address lies in the partition
pub record IsIn (p : Partition) (v : ℕ) : Type 0 where
  pub from : p.base ≤ v
  pub to : v < part_end p

-- two ranges do not meet
abbrev pub AreApart : Partition → Partition → Type 0
AreApart p q = (part_end p ≤ q.base) ⊎ (part_end q ≤ p.base)

-- aligned, and in root slots 10 to 511
pub record IsPart (p : Partition) : Type 0 where
  pub level : p.level ≤ TOP_LEVEL
  pub aligned : p.base % part_bytes p.level ≡ 0
  pub low : PARTITION_SLOT * SLOT_SPAN ≤ p.base
  pub high : p.base < ADDRESS_END

abbrev pub meets : Partition → Partition → Bool
meets p q = nat_lt p.base (part_end q) && nat_lt q.base (part_end p)

abbrev pub is_free : List Partition → Partition → Bool
is_free [] p = nat_lt 0 1
is_free (q ∷ qs) p = not (meets p q) && is_free qs p

-- the range of a level with a number
abbrev pub nth : ℕ → ℕ → Partition
nth level j = record { base = j * part_bytes level; level = level }

-- the number of a partition among the ranges of its level
abbrev pub number_of : Partition → ℕ
number_of p = p.base / part_bytes p.level

-- of k partitions of a level, from number j on, the free ones in rising order
unfoldable pub free_from : List Partition → ℕ → ℕ → ℕ → List Partition
free_from ps level j zero = []
free_from ps level j (suc k) = if is_free ps (nth level j) then nth level j ∷ free_from ps level (j + 1) k else free_from ps level (j + 1) k

-- the free partitions of a level in root slots 10 to 511
abbrev pub free_parts : List Partition → ℕ → List Partition
free_parts ps level = free_from ps level (PARTITION_SLOT * 8 ^ (TOP_LEVEL - level)) ((TABLE_ENTRIES - PARTITION_SLOT) * 8 ^ (TOP_LEVEL - level))
