-- What an image settles to while a record is drafted, armed, applied and closed.
use Rattle.std.specs.Prelude.{◌≡◌, ◌⊎◌, ℕ, ◌+◌, ◌-◌, ◌*◌, ◌/◌, ◌<◌, ◌≤◌, List, [], Option, Result, OnOk, length, slice_index, ◌≢◌, zero, suc}
use Rattle.ct_base.specs.declared.layout.TheConstants.{LONG_GATE, LONG_PAIRS, MOST_LONG_PAIRS, MOST_SHORT_PAIRS, PAGE_WORDS, ROOT_WORD, SHORT_GATE, SHORT_PAIRS, STAGING_SLOT, STAGING_SLOTS}
use Rattle.ct_base.specs.Settled.{Pair, with_pairs, pairs_at, open_pairs, settled, IsShut, HasFewPairs, HasPages, HaveTargets, Named, Gives, IsRecord}
use Rattle.ct_pm.specs.Images.{History}
use Rattle.ct_pm.specs.Device.{LeavesOnly, MakesOnly, NothingPending, SameOff, IsIn}

-- the word lies in the pages of the record, 1 to 32: those from the long gate up to the root table
abbrev pub InRecord : ℕ → Type 0
InRecord = IsIn LONG_GATE (ROOT_WORD - LONG_GATE)

-- the image settles to what the words settle to, pages 1 to 32 aside
abbrev pub SettlesTo : List ℕ → List ℕ → Type 0
SettlesTo words image = SameOff InRecord (settled image) (settled words)

-- the image has as many words, and page 0 is the same
pub record KeepsHead (words image : List ℕ) : Type 0 where
  pub size : length image ≡ length words
  pub head : (word : ℕ) → word < PAGE_WORDS → slice_index image word ≡ slice_index words word

-- a gate is open
abbrev pub IsOpen : List ℕ → Type 0
IsOpen words = 0 < slice_index words LONG_GATE + slice_index words SHORT_GATE

-- no record is open in the image, or one of just these pairs
abbrev pub OpensOnly : List Pair → List ℕ → Type 0
OpensOnly pairs image = (open_pairs image ≡ []) ⊎ (open_pairs image ≡ pairs)

-- the open pairs were applied
abbrev pub Stand : List ℕ → Type 0
Stand words = with_pairs (open_pairs words) words ≡ words

-- the record is open with all of the pairs
abbrev pub IsAll : List Pair → List ℕ → List ℕ → Type 0
IsAll pairs words image = (open_pairs image ≡ pairs) × SettlesTo (with_pairs pairs words) image

-- the record is closed and none of its pairs counts, or it is open with all
abbrev pub IsNoneOrAll : List Pair → List ℕ → List ℕ → Type 0
IsNoneOrAll pairs words image = (IsShut image × SettlesTo words image) ⊎ IsAll pairs words image

-- the image settles to the words without the pairs, or to those with all of them
abbrev pub SettlesToEither : List Pair → List ℕ → List ℕ → Type 0
SettlesToEither pairs words image = SettlesTo words image ⊎ SettlesTo (with_pairs pairs words) image

-- every pair names a word off pages 0 to 32
abbrev pub AreApart : List Pair → Type 0
AreApart pairs = (word : ℕ) → Named pairs word → ROOT_WORD ≤ word

-- the word lies in pages 1 to 32, whatever it gets
abbrev pub StaysInRecord : ℕ → ℕ → Type 0
StaysInRecord word value = InRecord word

-- the word is a root slot for staging
abbrev pub IsStaging : ℕ → Type 0
IsStaging word = (ROOT_WORD + STAGING_SLOT ≤ word) × (word < ROOT_WORD + STAGING_SLOT + STAGING_SLOTS)

-- the word is one of the three short pairs, or the short gate
abbrev pub InLine : ℕ → Type 0
InLine word = ((SHORT_PAIRS ≤ word) × (word < SHORT_PAIRS + 2 * MOST_SHORT_PAIRS)) ⊎ (word ≡ SHORT_GATE)

-- where the word lies in pages 1 to 32, it is one of the three short pairs or the short gate
abbrev pub StaysInLine : ℕ → ℕ → Type 0
StaysInLine word value = InRecord word → InLine word

-- where so many drafted pairs stand: up to three in the line of the short gate
unfoldable pub place_of : ℕ → ℕ
place_of zero = SHORT_PAIRS
place_of (suc zero) = SHORT_PAIRS
place_of (suc (suc zero)) = SHORT_PAIRS
place_of (suc (suc (suc zero))) = SHORT_PAIRS
place_of (suc (suc (suc (suc n)))) = LONG_PAIRS

-- the word is one that pairs may have been stored to, where the long ones end before a word
abbrev pub IsTouched : ℕ → ℕ → Type 0
IsTouched end word = (SHORT_PAIRS ≤ word) × (word < end) × (word ≢ SHORT_PAIRS + 2 * MOST_SHORT_PAIRS) × (word ≢ SHORT_GATE)

-- pairs that may be armed
pub record IsFull (from count end : ℕ) (words : List ℕ) : Type 0 where
  pub some : 0 < count
  pub few : count ≤ MOST_LONG_PAIRS
  pub low : LONG_PAIRS ≤ end
  pub high : end ≤ ROOT_WORD
  pub shut : IsShut words
  pub pages : HasPages words
  pub targets : HaveTargets from count words

-- the record is open with all of the pairs, and may be applied
pub record IsArmed (pairs : List Pair) (words image : List ℕ) : Type 0 where
  pub pages : HasPages image
  pub lawful : IsRecord image
  pub opened : IsOpen image
  pub all : IsAll pairs words image

-- the first few of the n pairs were applied
abbrev pub AreApplied : ℕ → ℕ → List ℕ → List ℕ → Type 0
AreApplied from n was words = (j : ℕ) × (j ≤ n) × (words ≡ with_pairs (pairs_at from j was) was)

-- pair i names a word in the line of a word that one before it names
abbrev pub SharesLine : ℕ → ℕ → List ℕ → Type 0
SharesLine from i words = (k : ℕ) × (k < i) × (slice_index words (from + 2 * k) / 8 ≡ slice_index words (from + 2 * i) / 8)

-- where the open pairs stand
pub record IsPlace (from count : ℕ) (words : List ℕ) : Type 0 where
  pub inside : from + 2 * count ≤ ROOT_WORD
  pub pairs : pairs_at from count words ≡ open_pairs words
  pub targets : HaveTargets from count words

-- a draft that began on such words: what it has done since
pub record IsDrafted (was words : List ℕ) (start told : Option History) : Type 0 where
  pub was_shut : IsShut was
  pub shut : IsShut words
  pub same : SameOff InRecord words was
  pub moments : LeavesOnly start told (SettlesTo was)
  pub each_shut : LeavesOnly start told IsShut
  pub made : MakesOnly StaysInRecord start told

-- the word lies in pages 1 to 32, or one of the pairs gives it this value
abbrev pub StaysOrGives : List Pair → ℕ → ℕ → Type 0
StaysOrGives pairs word value = InRecord word ⊎ Gives pairs word value

-- A record of such pairs that began on the words was and has come to its end, or stopped on the way.
pub record Concluded {T E : Type 0} (was : List ℕ) (start : Option History) (pairs : List Pair) (count : ℕ) (now : List ℕ) (told : Option History) (result : Result T E) : Type 0 where
  -- at Ok the pairs stand, and off pages 1 to 32 nothing else changed
  pub words : OnOk result (SameOff InRecord now (with_pairs pairs was))
  pub shut : OnOk result (IsShut now)
  pub settled : OnOk result (NothingPending told)
  pub pages : OnOk result (HasPages now)
  -- a crash at any moment leaves what settles to the words before or after, and so do the words as they read
  pub any_moment : LeavesOnly start told (SettlesToEither pairs was)
  pub reads : SettlesToEither pairs was now
  -- the record is lawful in it, with no more pairs than these
  pub lawful : LeavesOnly start told (HasFewPairs count)
  pub reads_lawful : HasFewPairs count now
  -- no other pairs are ever open
  pub opens : LeavesOnly start told (OpensOnly pairs)
  pub reads_opens : OpensOnly pairs now
  -- off pages 1 to 32 each store gives a word the value that one of the pairs has for it
  pub made : MakesOnly (StaysOrGives pairs) start told
