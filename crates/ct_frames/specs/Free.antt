-- Which pages are free.
use Rattle.std.specs.Prelude.{◌≡◌, ℕ, zero, suc, false, length, ◌*◌, ◌/◌, ◌%◌, ◌<◌, ◌≤◌, ◌==◌, nat_lt, Bool, cond, if◌then◌else◌, List, [], ◌∷◌, slice_index}
use Rattle.std.specs.Int.{bit_at}
use Rattle.ct_base.specs.declared.layout.TheConstants.{FIRST_PAGE, MOST_PAGES}

-- a number of pages, and those of them that are free, in rising order
pub record FreePages : Type 0 where
  pub pages : ℕ
  pub free : List ℕ

-- the numbers from lo on, n of them, that pass
abbrev pub listed : (ℕ → Bool) → ℕ → ℕ → List ℕ
listed p zero lo = []
listed p (suc n) lo = cond (p lo) (lo ∷ listed p n (suc lo)) (listed p n (suc lo))

-- the bit of a page in a list of words
unfoldable pub is_set : List ℕ → ℕ → Bool
is_set words page = bit_at (slice_index words (page / 64)) (page % 64) == 1

-- a rising list with a number put in its place
abbrev pub inserted : ℕ → List ℕ → List ℕ
inserted page [] = page ∷ []
inserted page (q ∷ qs) = if nat_lt page q then page ∷ q ∷ qs else q ∷ inserted page qs

-- a list without a number
abbrev pub without : ℕ → List ℕ → List ℕ
without page [] = []
without page (q ∷ qs) = if q == page then qs else q ∷ without page qs

-- those of a list that are not below a number
abbrev pub from_on : ℕ → List ℕ → List ℕ
from_on lo [] = []
from_on lo (q ∷ qs) = if nat_lt q lo then from_on lo qs else q ∷ from_on lo qs

-- the numbers from lo on, n of them
abbrev pub rising : ℕ → ℕ → List ℕ
rising zero lo = []
rising (suc n) lo = lo ∷ rising n (suc lo)

-- all words before one are 0
abbrev pub ZeroBelow : List ℕ → ℕ → Type 0
ZeroBelow words i = (k : ℕ) → k < i → slice_index words k ≡ 0

-- what holds of the bits, of the place before which all words are 0 and of the count
pub record AreFrames (words : List ℕ) (pages from total : ℕ) : Type 0 where
  pub least : FIRST_PAGE ≤ pages
  pub most : pages ≤ MOST_PAGES
  pub size : pages ≤ 64 * length words
  pub short : length words ≤ MOST_PAGES / 64
  pub first : from ≤ length words
  pub zeros : ZeroBelow words from
  pub low : (q : ℕ) → q < FIRST_PAGE → is_set words q ≡ false
  pub high : (q : ℕ) → pages ≤ q → is_set words q ≡ false
  pub count : total ≡ length (listed (is_set words) pages 0)
