-- The bytes in the words of the format, by the live partitions alone.
use Rattle.std.specs.Prelude.{◌≡◌, ℕ, zero, suc, ◌+◌, ◌-◌, ◌*◌, ◌/◌, ◌^◌, ◌<◌, ◌≤◌, nat_lt, ◌&&◌, Bool, true, false, List, [], ◌∷◌}
use Rattle.std.specs.Prelude.{◌==◌, ◌≢◌, nat_le, ◌%◌}
use Rattle.std.specs.Int.{w64, to_le_bytes}
use Rattle.ct_base.specs.Inode.{Partition, number_of}
use Rattle.ct_base.specs.Ranges.{IsFree, header_at, byte_shown, summary}
use Rattle.ct_base.specs.declared.layout.TheConstants.{PARTITION_SLOT, SLOT_SPAN, TABLE_ENTRIES, TOP_LEVEL}

-- a live partition lies in range (n, j) and is not it
pub record StrictlyHolds (live : ℕ → ℕ → Bool) (n j : ℕ) : Type 0 where
  pub level : ℕ
  pub number : ℕ
  pub lower : level < n
  pub inside : number / 8 ^ (n - level) ≡ j
  pub is : live level number ≡ true

-- range (l, x) lies in range (n, j), or is it
abbrev pub IsInside : ℕ → ℕ → ℕ → ℕ → Type 0
IsInside l x n j = (l ≤ n) × (x / 8 ^ (n - l) ≡ j)

-- a free range of level l in range (n, j)
pub record HasFree (live : ℕ → ℕ → Bool) (l n j : ℕ) : Type 0 where
  pub number : ℕ
  pub inside : IsInside l number n j
  pub free : IsFree live l number

-- m is 0 where no range inside is free, else 1 plus the greatest level of a free range inside
pub record IsRoom (live : ℕ → ℕ → Bool) (n j m : ℕ) : Type 0 where
  pub most : (l : ℕ) → HasFree live l n j → l < m
  pub some : (l : ℕ) → m ≡ suc l → HasFree live l n j

-- b is the byte of range (n, j)
pub record IsByte (live : ℕ → ℕ → Bool) (n j b : ℕ) : Type 0 where
  pub slot : n ≡ TOP_LEVEL → j < PARTITION_SLOT → b ≡ 48
  pub itself : (n ≡ TOP_LEVEL → PARTITION_SLOT ≤ j) → live n j ≡ true → b ≡ 16
  pub holds : (n ≡ TOP_LEVEL → PARTITION_SLOT ≤ j) → StrictlyHolds live n j → (m : ℕ) × (b ≡ 32 + m) × IsRoom live n j m
  pub none : (n ≡ TOP_LEVEL → PARTITION_SLOT ≤ j) → live n j ≡ false → (StrictlyHolds live n j → ⊥) → b ≡ 0

-- the addresses of the header words above range (n, j), so many of them
unfoldable pub words_above : ℕ → ℕ → ℕ → List ℕ
words_above n j zero = []
words_above n j (suc count) = header_at (n + 1) (j / 8) ∷ words_above (n + 1) (j / 8) count

-- those on the path of a partition
abbrev pub header_words : Partition → List ℕ
header_words p = words_above p.level (number_of p) (10 - p.level)

-- the ranges of slots 0 to 511 whose bytes are 16
abbrev pub shows_live : (ℕ → ℕ) → ℕ → ℕ → Bool
shows_live word_at n j = (nat_le n TOP_LEVEL && nat_lt j (TABLE_ENTRIES * 8 ^ (TOP_LEVEL - n))) && byte_shown word_at n j == 16

-- Each byte is 16 over a word of 0, or is what its word says.
pub record IsLocal (word_at : ℕ → ℕ) : Type 0 where
  pub lowest : (j : ℕ) → j < TABLE_ENTRIES * 8 ^ 9 → byte_shown word_at 0 j ≢ 16 → byte_shown word_at 0 j ≡ 0
  pub itself : (n j : ℕ) → n ≤ 8 → j < TABLE_ENTRIES * 8 ^ (8 - n) → byte_shown word_at (suc n) j ≡ 16 → word_at (header_at (n + 1) j) ≡ 0
  pub others : (n j : ℕ) → n ≤ 8 → j < TABLE_ENTRIES * 8 ^ (8 - n) → byte_shown word_at (suc n) j ≢ 16 → (n ≡ 8 → PARTITION_SLOT ≤ j) → byte_shown word_at (suc n) j ≡ summary n (to_le_bytes w64 (word_at (header_at (n + 1) j)))
  pub slots : (j : ℕ) → j < PARTITION_SLOT → byte_shown word_at 9 j ≡ 48
  pub below : (j : ℕ) → j < PARTITION_SLOT → word_at (header_at 9 j) ≡ 0
  pub small : (a : ℕ) → word_at a < 2 ^ 64
  pub rest : (a : ℕ) → a / SLOT_SPAN ≡ 1 → a % 8 ≡ 0 → ((n j : ℕ) → n ≤ TOP_LEVEL → j < 64 * 8 ^ (9 - n) → a ≢ header_at (n + 1) j) → word_at a ≡ 0

-- The word above the ranges 8 j to 8 j + 7 of level n, which is not 0, agrees with the byte above it and with the words below it.
pub record IsRightWord (word_at : ℕ → ℕ) (n j : ℕ) : Type 0 where
  pub slot : n ≡ 8 → PARTITION_SLOT ≤ j
  pub above : n ≤ 8 → byte_shown word_at (suc n) j ≡ summary n (to_le_bytes w64 (word_at (header_at (n + 1) j)))
  pub lowest : (c : ℕ) → n ≡ 0 → c / 8 ≡ j → byte_shown word_at 0 c ≢ 16 → byte_shown word_at 0 c ≡ 0
  pub itself : (k c : ℕ) → n ≡ suc k → c / 8 ≡ j → byte_shown word_at (suc k) c ≡ 16 → word_at (header_at (k + 1) c) ≡ 0
  pub others : (k c : ℕ) → n ≡ suc k → c / 8 ≡ j → byte_shown word_at (suc k) c ≢ 16 → (k ≡ 8 → PARTITION_SLOT ≤ c) → byte_shown word_at (suc k) c ≡ summary k (to_le_bytes w64 (word_at (header_at (k + 1) c)))
