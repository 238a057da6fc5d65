-- Range (n, j) is the range with number j among the aligned ranges of 4096 * 8 ^ n bytes. A partition is such a range
-- of level 0 to 9; a range of level 9 is a root slot. A live set is a test on levels and numbers.
use Rattle.std.specs.Prelude.{◌≡◌, ◌≢◌, ℕ, zero, suc, ◌+◌, ◌-◌, ◌*◌, ◌/◌, ◌%◌, ◌^◌, ◌<◌, ◌≤◌, ◌==◌, nat_lt, ◌&&◌, ◌||◌, Bool, true, false, if◌then◌else◌, List, [], ◌∷◌, slice_index, max}
use Rattle.std.specs.List.{list_all}
use Rattle.std.specs.Int.{w64, from_le_bytes, to_le_bytes}
use Rattle.ct_base.specs.declared.layout.TheConstants.{PARTITION_SLOT, SLOT_SPAN, TABLE_ENTRIES, TOP_LEVEL}

-- the ranges have an address in common
abbrev pub Meet : ℕ → ℕ → ℕ → ℕ → Type 0
Meet k i n j = (i * 8 ^ k < (j + 1) * 8 ^ n) × (j * 8 ^ n < (i + 1) * 8 ^ k)

-- eight values
abbrev pub eight : (ℕ → ℕ) → List ℕ
eight f = f 0 ∷ f 1 ∷ f 2 ∷ f 3 ∷ f 4 ∷ f 5 ∷ f 6 ∷ f 7 ∷ []

abbrev pub are_zero : List ℕ → Bool
are_zero bs = list_all (λ b. b == 0) bs

-- what the byte of a range of level n says: 1 and the greatest level of a free range in it, or 0 where there is none
abbrev pub rank : ℕ → ℕ → ℕ
rank n b = if b == 0 then n + 1 else b - 32

abbrev pub best : ℕ → List ℕ → ℕ
best n [] = 0
best n (b ∷ bs) = max (rank n b) (best n bs)

-- the byte of a range that is not live, by the bytes of its children, which are of level n
unfoldable pub summary : ℕ → List ℕ → ℕ
summary n bs = if are_zero bs then 0 else 32 + best n bs

-- the byte of a range
unfoldable pub byte : (ℕ → ℕ → Bool) → ℕ → ℕ → ℕ
byte live zero j = if live 0 j then 16 else 0
byte live (suc n) j = if live (suc n) j then 16 else summary n (eight (λ i. byte live n (8 * j + i)))

-- the byte as it stands in a header: slots 0 to 9 are the product's own
abbrev pub shown : (ℕ → ℕ → Bool) → ℕ → ℕ → ℕ
shown live n j = if n == TOP_LEVEL && nat_lt j PARTITION_SLOT then 48 else byte live n j

-- the bytes of the header word of range (n + 1, j); the words of the level-9 bytes are those of level 10
abbrev pub bytes_below : (ℕ → ℕ → Bool) → ℕ → ℕ → List ℕ
bytes_below live n j = eight (λ i. shown live n (8 * j + i))

unfoldable pub header : (ℕ → ℕ → Bool) → ℕ → ℕ → ℕ
header live n j = from_le_bytes w64 (bytes_below live n j)

-- the address of the header word of range (n, j), n from 1 to 10
unfoldable pub header_at : ℕ → ℕ → ℕ
header_at n j = SLOT_SPAN + (if nat_lt n 2 then 8 * j else 68719476736 + (n - 2) * 8589934592 + 8 * j)

-- the byte of range (n, c) as the headers show it
abbrev pub byte_shown : (ℕ → ℕ) → ℕ → ℕ → ℕ
byte_shown word_at n c = slice_index (to_le_bytes w64 (word_at (header_at (n + 1) (c / 8)))) (c % 8)

-- a byte that says that there is a free range of at least level l
abbrev pub fits : ℕ → ℕ → Bool
fits l b = (b == 0) || nat_lt (32 + l) b

-- The words of slot 1 are those of a live set.
pub record Headers (live : ℕ → ℕ → Bool) (word_at : ℕ → ℕ) : Type 0 where
  pub words : (n j : ℕ) → n ≤ TOP_LEVEL → j < 64 * 8 ^ (9 - n) → word_at (header_at (n + 1) j) ≡ header live n j
  pub rest : (a : ℕ) → a / SLOT_SPAN ≡ 1 → a % 8 ≡ 0 → ((n j : ℕ) → n ≤ TOP_LEVEL → j < 64 * 8 ^ (9 - n) → a ≢ header_at (n + 1) j) → word_at a ≡ 0

-- range (n, j) is a partition: its level is 0 to 9 and it lies in slots 10 to 511
pub record IsPartition (n j : ℕ) : Type 0 where
  pub level : n ≤ TOP_LEVEL
  pub low : PARTITION_SLOT * 8 ^ (TOP_LEVEL - n) ≤ j
  pub high : j < TABLE_ENTRIES * 8 ^ (TOP_LEVEL - n)

-- range (n, j) meets no partition of the set
abbrev pub IsFree : (ℕ → ℕ → Bool) → ℕ → ℕ → Type 0
IsFree live n j = (k i : ℕ) → live k i ≡ true → Meet k i n j → ⊥

-- range (n, j) is the first free partition of its level
pub record IsFirstFree (live : ℕ → ℕ → Bool) (n j : ℕ) : Type 0 where
  pub partition : IsPartition n j
  pub free : IsFree live n j
  pub first : (x : ℕ) → IsPartition n x → IsFree live n x → j ≤ x

-- The sets differ at partition (m, p) at most, no range above it is live in the new one, and b is its new byte.
pub record Changes (old new : ℕ → ℕ → Bool) (m p b : ℕ) : Type 0 where
  pub off : (n j : ℕ) → (n ≡ m → j ≡ p → ⊥) → new n j ≡ old n j
  pub partition : IsPartition m p
  pub above : (d : ℕ) → m + suc d ≤ TOP_LEVEL → new (m + suc d) (p / 8 ^ suc d) ≡ false
  pub is : b ≡ byte new m p

-- The partitions of the set are partitions, and none lies in another.
pub record IsLiveSet (live : ℕ → ℕ → Bool) : Type 0 where
  pub partition : (n j : ℕ) → live n j ≡ true → IsPartition n j
  pub apart : (n j d : ℕ) → live n j ≡ true → live (n + suc d) (j / 8 ^ suc d) ≡ false

-- No partition of the set lies in range (n, j) or is it.
abbrev pub NoneIn : (ℕ → ℕ → Bool) → ℕ → ℕ → Type 0
NoneIn live n j = (d k i : ℕ) → k + d ≡ n → i / 8 ^ d ≡ j → live k i ≡ false

-- No partition of the set, of a level up to n, meets range (l, x).
pub record Clear (live : ℕ → ℕ → Bool) (n l x : ℕ) : Type 0 where
  pub down : NoneIn live l x
  pub up : (d : ℕ) → l + d ≤ n → live (l + d) (x / 8 ^ d) ≡ false

-- Range (l + e, j) is the first with a free partition of level l in it, and no range above it is live.
pub record Going (live : ℕ → ℕ → Bool) (l e j : ℕ) : Type 0 where
  pub partition : IsPartition (l + e) j
  pub room : l < rank (l + e) (byte live (l + e) j)
  pub above : (d : ℕ) → l + e + suc d ≤ TOP_LEVEL → live (l + e + suc d) (j / 8 ^ suc d) ≡ false
  pub first : (x : ℕ) → IsPartition l x → Clear live TOP_LEVEL l x → j ≤ x / 8 ^ e

-- the same by the headers alone, at level n
abbrev pub IsDown : (ℕ → ℕ) → ℕ → ℕ → ℕ → Type 0
IsDown word_at l n j = (live : ℕ → ℕ → Bool) → IsLiveSet live → Headers live word_at → Going live l (n - l) j
