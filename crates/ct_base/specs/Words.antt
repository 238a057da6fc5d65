-- Words by their virtual address, and words that change in a data page.
use Rattle.std.specs.Prelude.{◌≡◌, ◌≢◌, ℕ, zero, suc, ◌+◌, ◌-◌, ◌*◌, ◌/◌, ◌%◌, ◌<◌, ◌≤◌, nat_le, nat_lt, ◌&&◌, if◌then◌else◌, List, [], ◌∷◌, length, slice_index}
use Rattle.ct_base.specs.Settled.{Pair}
use Rattle.ct_base.specs.Walk.{word, word_in, page_at, AreTables, AgreeOff}
use Rattle.ct_base.specs.declared.layout.TheConstants.{PAGE_BYTES, PAGE_WORDS}

-- the word at an address, 0 where there is no page
unfoldable pub word_at : List ℕ → ℕ → ℕ
word_at img a = word_in img (page_at img 4 (a / PAGE_BYTES)) (a % PAGE_BYTES / 8)

-- Word o of virtual page n becomes v.
pub record Writes (old new : List ℕ) (n o v : ℕ) : Type 0 where
  pub tables : AreTables old
  pub there : page_at old 4 n ≢ 0
  pub index : o < PAGE_WORDS
  pub value : word new (page_at old 4 n * PAGE_WORDS + o) ≡ v
  pub others : AgreeOff (page_at old 4 n * PAGE_WORDS + o) old new
  pub size : length new ≡ length old

-- the device word of an address
abbrev pub place_at : List ℕ → ℕ → ℕ
place_at img a = page_at img 4 (a / PAGE_BYTES) * PAGE_WORDS + a % PAGE_BYTES / 8

-- the pairs that give n device words from a place on the first n of the values, the newest first
abbrev pub pairs_to : ℕ → List ℕ → ℕ → List Pair
pairs_to place values zero = []
pairs_to place values (suc n) = record { word = place + n; value = slice_index values n } ∷ pairs_to place values n

-- the words by address, where those from an address on are these values
abbrev pub with_words : (ℕ → ℕ) → ℕ → List ℕ → ℕ → ℕ
with_words words at values a = if nat_le at a && nat_lt a (at + 8 * length values) then slice_index values ((a - at) / 8) else words a

-- The words of mapped pages from an address on become these values, and each other word of a mapped page stays.
pub record Rewrites (old new : List ℕ) (at : ℕ) (values : List ℕ) : Type 0 where
  pub tables : AreTables new
  pub cells : (d x : ℕ) → d ≤ 4 → page_at new d x ≡ page_at old d x
  pub words : (a : ℕ) → word_at new a ≡ with_words (word_at old) at values a
  -- the superblock stays
  pub head : (w : ℕ) → w < PAGE_WORDS → word new w ≡ word old w
  pub size : length new ≡ length old
