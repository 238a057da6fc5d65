-- Two ranges of n virtual pages, from a and from b on, change places.
use Rattle.std.specs.Prelude.{◌≡◌, ◌≢◌, ℕ, ◌+◌, ◌-◌, ◌*◌, ◌/◌, ◌%◌, ◌^◌, ◌<◌, ◌≤◌, ◌⊎◌, nat_lt, nat_le, ◌&&◌, if◌then◌else◌, List, length}
use Rattle.ct_base.specs.Walk.{word, page_at, page_count, IsFresh, AreTables}
use Rattle.ct_base.specs.declared.layout.TheConstants.{PAGE_WORDS, TABLE_ENTRIES}

-- the page of which page p gets the walk
unfoldable pub partner : ℕ → ℕ → ℕ → ℕ → ℕ
partner a b n p =
    if nat_le a p && nat_lt p (a + n) then p - a + b else (if nat_le b p && nat_lt p (b + n) then p - b + a else p)

-- the ranges do not meet
abbrev pub Apart : ℕ → ℕ → ℕ → Type 0
Apart a b n = (a + n ≤ b) ⊎ (b + n ≤ a)

-- page p is in neither range
pub record Outside (a b n p : ℕ) : Type 0 where
  pub first : a ≤ p → a + n ≤ p
  pub second : b ≤ p → b + n ≤ p

-- The tables of new are those of old, but that the walks of the two ranges have changed places.
pub record Exchanged (old new : List ℕ) (a b n : ℕ) : Type 0 where
  pub tables : AreTables new
  pub pages : (p : ℕ) → page_at new 4 p ≡ page_at old 4 (partner a b n p)
  -- the tables on the way to a page outside stay
  pub cells : (e p : ℕ) → e ≤ 4 → Outside a b n p → page_at new e (p / TABLE_ENTRIES ^ (4 - e)) ≡ page_at old e (p / TABLE_ENTRIES ^ (4 - e))
  -- the contents of pages stay
  pub contents : (p o : ℕ) → o < PAGE_WORDS → page_at old 4 p ≢ 0 → word new (page_at old 4 p * PAGE_WORDS + o) ≡ word old (page_at old 4 p * PAGE_WORDS + o)
  -- where all begins and ends at multiples of 512 ^ k pages, the tables of so many pages change places too
  pub within : (k c : ℕ) → k ≤ 3 → a % TABLE_ENTRIES ^ k ≡ 0 → b % TABLE_ENTRIES ^ k ≡ 0 → n % TABLE_ENTRIES ^ k ≡ 0
      → page_at new (4 - k) c ≡ page_at old (4 - k) (partner (a / TABLE_ENTRIES ^ k) (b / TABLE_ENTRIES ^ k) (n / TABLE_ENTRIES ^ k) c)
  -- and tables of more pages than are exchanged stay
  pub above : (k c : ℕ) → k ≤ 4 → n < TABLE_ENTRIES ^ k → page_at new (4 - k) c ≡ page_at old (4 - k) c
  pub fresh : (q : ℕ) → IsFresh old q → IsFresh new q
  pub reached : (q : ℕ) → IsFresh new q → IsFresh old q
  pub count : page_count new ≡ page_count old
  pub size : length new ≡ length old

-- for each piece the table of its height plus 1 is there on both sides
abbrev pub HasTables : List ℕ → ℕ → ℕ → ℕ × ℕ → Type 0
HasTables img a b piece =
    (page_at img (3 - piece.1) ((a + piece.0) / TABLE_ENTRIES ^ (piece.1 + 1)) ≢ 0) × (page_at img (3 - piece.1) ((b + piece.0) / TABLE_ENTRIES ^ (piece.1 + 1)) ≢ 0)

-- the word of the entry for a piece of height h at virtual page p
abbrev pub entry_at : List ℕ → ℕ → ℕ → ℕ
entry_at img p h = page_at img (3 - h) (p / TABLE_ENTRIES ^ (h + 1)) * PAGE_WORDS + p / TABLE_ENTRIES ^ h % TABLE_ENTRIES
