-- The headers in root slot 1: a byte for each range of each level, by the live partitions.
use Rattle.std.specs.Prelude.{◌≡◌, ◌≢◌, ℕ, zero, suc, ◌+◌, ◌-◌, ◌*◌, ◌^◌, ◌<◌, ◌≤◌, ◌==◌, ◌&&◌, ◌||◌, Bool, true, false, if◌then◌else◌, List, [], ◌∷◌}
use Rattle.ct_base.specs.Inode.{Partition, part_bytes, IsPart, is_free}
use Rattle.ct_base.specs.Ranges.{shown}
use Rattle.ct_base.specs.declared.layout.TheConstants.{SLOT_SPAN, TOP_LEVEL}

-- range j of level n is one of the list
abbrev pub is_one : List Partition → ℕ → ℕ → Bool
is_one [] n j = false
is_one (p ∷ ps) n j = ((p.level == n) && (p.base == j * part_bytes n)) || is_one ps n j

-- the byte of range j of level n, with these partitions live
abbrev pub header_byte : List Partition → ℕ → ℕ → ℕ
header_byte ps n j = shown (is_one ps) n j

-- where the byte of range j of level n stands
abbrev pub byte_place : ℕ → ℕ → ℕ
byte_place zero j = SLOT_SPAN + j
byte_place (suc n) j = SLOT_SPAN + (2 ^ 36 + n * 2 ^ 33 + j)

-- how many ranges of a level there are
abbrev pub ranges : ℕ → ℕ
ranges n = 8 ^ (12 - n)

-- The bytes of root slot 1 stand for the partitions.
pub record HeadersStand (b : ℕ → ℕ) (ps : List Partition) : Type 0 where
  pub bytes : (n j : ℕ) → n ≤ TOP_LEVEL → j < ranges n → b (byte_place n j) ≡ header_byte ps n j
  pub rest : (v : ℕ) → SLOT_SPAN ≤ v → v < 2 * SLOT_SPAN → ((n j : ℕ) → n ≤ TOP_LEVEL → j < ranges n → v ≢ byte_place n j) → b v ≡ 0

-- the list is of partitions that do not meet
abbrev pub AreDisjoint : List Partition → Type 0
AreDisjoint [] = Unit {0}
AreDisjoint (p ∷ ps) = IsPart p × (is_free ps p ≡ true) × AreDisjoint ps

-- The bytes of root slot 1 stand for partitions that do not meet.
pub record StandFor (b : ℕ → ℕ) (ps : List Partition) : Type 0 where
  pub apart : AreDisjoint ps
  pub stand : HeadersStand b ps

-- the list without a partition
unfoldable pub without : Partition → List Partition → List Partition
without p [] = []
without p (q ∷ qs) = if (q.level == p.level) && (q.base == p.base) then without p qs else q ∷ without p qs
