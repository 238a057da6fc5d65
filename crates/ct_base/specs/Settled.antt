-- The redo record of an image, and the image with it applied. Record word r is word 512 + r. Word 512 is the long gate,
-- word 527 the short one. Up to three short pairs stand from word 520 on, the long ones from word 528 on.
use Rattle.std.specs.Prelude.{◌≡◌, ◌⊎◌, ℕ, ◌+◌, ◌*◌, ◌<◌, ◌≤◌, zero, suc, List, [], ◌∷◌, length, slice_index, slice_set}
use Rattle.ct_base.specs.declared.layout.TheConstants.{FIRST_PAGE, LONG_GATE, LONG_PAIRS, MOST_LONG_PAIRS, MOST_SHORT_PAIRS, PAGE_WORDS, ROOT_WORD, SHORT_GATE, SHORT_PAIRS}

-- a device word, and the value that it gets
pub record Pair : Type 0 where
  pub word : ℕ
  pub value : ℕ

-- the words once the pairs are applied; the list has the newest pair first, and it is applied last
abbrev pub with_pairs : List Pair → List ℕ → List ℕ
with_pairs [] words = words
with_pairs (pair ∷ pairs) words = slice_set (with_pairs pairs words) pair.word pair.value

-- one of the pairs names the word
abbrev pub Named : List Pair → ℕ → Type 0
Named [] word = ⊥
Named (pair ∷ pairs) word = (word ≡ pair.word) ⊎ Named pairs word

-- one of the pairs gives the word this value
abbrev pub Gives : List Pair → ℕ → ℕ → Type 0
Gives [] word value = ⊥
Gives (pair ∷ pairs) word value = ((word ≡ pair.word) × (value ≡ pair.value)) ⊎ Gives pairs word value

-- the n pairs that stand from a word on, the newest first
abbrev pub pairs_at : ℕ → ℕ → List ℕ → List Pair
pairs_at from zero words = []
pairs_at from (suc n) words =
    record { word = slice_index words (from + 2 * n); value = slice_index words (from + 2 * n + 1) } ∷ pairs_at from n words

-- the pairs of the open gate, given both gates
abbrev pub pairs_behind : ℕ → ℕ → List ℕ → List Pair
pairs_behind zero short words = pairs_at SHORT_PAIRS short words
pairs_behind (suc n) short words = pairs_at LONG_PAIRS (suc n) words

-- the pairs of the open record, none where both gates are closed
abbrev pub open_pairs : List ℕ → List Pair
open_pairs words = pairs_behind (slice_index words LONG_GATE) (slice_index words SHORT_GATE) words

-- both gates and root slots 2 to 9, each with 0
unfoldable pub cleared : List Pair
cleared =
    record { word = LONG_GATE; value = 0 } ∷ record { word = SHORT_GATE; value = 0 }
    ∷ record { word = 16898; value = 0 } ∷ record { word = 16899; value = 0 } ∷ record { word = 16900; value = 0 } ∷ record { word = 16901; value = 0 }
    ∷ record { word = 16902; value = 0 } ∷ record { word = 16903; value = 0 } ∷ record { word = 16904; value = 0 } ∷ record { word = 16905; value = 0 }
    ∷ []

-- the image with its open record applied, its gates closed and its staging cleared
unfoldable pub settled : List ℕ → List ℕ
settled image = with_pairs cleared (with_pairs (open_pairs image) image)

-- both gates are closed
abbrev pub IsShut : List ℕ → Type 0
IsShut words = (slice_index words LONG_GATE ≡ 0) × (slice_index words SHORT_GATE ≡ 0)

-- there are pages 0 to 33, and as many pages as word 2 says
abbrev pub HasPages : List ℕ → Type 0
HasPages words = (FIRST_PAGE ≤ slice_index words 2) × (PAGE_WORDS * slice_index words 2 ≤ length words)

-- the word lies in a page from 33 to the page count less 1
abbrev pub IsTarget : List ℕ → ℕ → Type 0
IsTarget words word = (ROOT_WORD ≤ word) × (word < PAGE_WORDS * slice_index words 2)

-- each of the n pairs from a word on names one that it may name
abbrev pub HaveTargets : ℕ → ℕ → List ℕ → Type 0
HaveTargets from n words = (k : ℕ) → k < n → IsTarget words (slice_index words (from + 2 * k))

-- at most one gate is open, and its pairs are as they may be: mount rules 6 and 7
pub record IsRecord (words : List ℕ) : Type 0 where
  pub long : slice_index words LONG_GATE ≤ MOST_LONG_PAIRS
  pub short : slice_index words SHORT_GATE ≤ MOST_SHORT_PAIRS
  pub one : 0 < slice_index words LONG_GATE → slice_index words SHORT_GATE ≡ 0
  pub long_targets : HaveTargets LONG_PAIRS (slice_index words LONG_GATE) words
  pub short_targets : HaveTargets SHORT_PAIRS (slice_index words SHORT_GATE) words

-- the record is as it may be, and a long one has at most so many pairs
pub record HasFewPairs (most : ℕ) (words : List ℕ) : Type 0 where
  pub lawful : IsRecord words
  pub few : slice_index words LONG_GATE ≤ most
