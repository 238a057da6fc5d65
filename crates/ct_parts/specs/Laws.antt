-- What holds of the headers of every list of partitions that do not meet.
use Rattle.std.specs.Prelude.{◌≡◌, ℕ, ◌<◌, ◌≤◌, ◌↔◌, true, List, [], ◌∷◌}
use Rattle.ct_base.specs.Inode.{Partition, little, nth, is_free, free_parts, live_parts}
use Rattle.ct_base.specs.Headers.{is_one, header_byte, HeadersStand, AreDisjoint, StandFor}
use Rattle.ct_base.specs.Ranges.{Headers, IsPartition, IsFree, IsFirstFree}
use Rattle.ct_base.specs.Rules.{ArePlaced, ArePartsApart, AreHeaders}
use Rattle.ct_base.specs.Published.{IsByte}
use Rattle.ct_base.specs.declared.layout.TheConstants.{TOP_LEVEL}

-- each header byte is the one that the format asks for
abbrev pub BytesAreTheFormats : Type 0
BytesAreTheFormats = (ps : List Partition) (n j : ℕ) → n ≤ TOP_LEVEL → AreDisjoint ps → IsByte (is_one ps) n j (header_byte ps n j)

-- and the format asks for no other
abbrev pub FormatsBytesAreThese : Type 0
FormatsBytesAreThese = (ps : List Partition) (n j b : ℕ) → n ≤ TOP_LEVEL → AreDisjoint ps → IsByte (is_one ps) n j b → b ≡ header_byte ps n j

-- bytes stand for one set of partitions at most
abbrev pub HeadersDetermineTheSet : Type 0
HeadersDetermineTheSet = (b : ℕ → ℕ) (ps qs : List Partition) → StandFor b ps → StandFor b qs → (n j : ℕ) → is_one qs n j ≡ is_one ps n j

-- where the rules hold, the headers stand for the partitions of the live inodes
abbrev pub SoundHeadersStand : Type 0
SoundHeadersStand = (b : ℕ → ℕ) (count : ℕ) → ArePlaced b count → ArePartsApart b count → AreHeaders b count → StandFor b (live_parts b count)

-- headers stand by their bytes where they stand by their words of eight bytes
abbrev pub WordsHoldTheBytes : Type 0
WordsHoldTheBytes = (b : ℕ → ℕ) (ps : List Partition) → ((v : ℕ) → b v < 256) → HeadersStand b ps ↔ Headers (is_one ps) (λ a. little b a 8)

-- a range is free by the test of the list where it meets no range of the set
abbrev pub FreeIsFree : Type 0
FreeIsFree = (ps : List Partition) (n j : ℕ) → AreDisjoint ps → (is_free ps (nth n j) ≡ true) ↔ IsFree (is_one ps) n j

-- the first free partition of a level heads the list of the free ones
abbrev pub FirstFreeIsTheHead : Type 0
FirstFreeIsTheHead = (ps : List Partition) (n j : ℕ) → AreDisjoint ps → IsFirstFree (is_one ps) n j → (rest : List Partition) × (free_parts ps n ≡ nth n j ∷ rest)

-- which is empty where none is free
abbrev pub NoneFreeIsEmpty : Type 0
NoneFreeIsEmpty =
    (ps : List Partition) (n : ℕ) → n ≤ TOP_LEVEL → AreDisjoint ps → ((j : ℕ) → IsPartition n j → ¬ IsFree (is_one ps) n j) → free_parts ps n ≡ []
