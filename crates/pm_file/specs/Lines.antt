-- Sets of lines, a mask of 64 bits a page.
use Rattle.std.specs.Prelude.{◌≡◌, ℕ, ◌-◌, ◌*◌, ◌/◌, ◌%◌, ◌^◌, List, slice_index, slice_set, bit_and, bit_or, min, sum_by, IsBitSet, take, drop}

-- the set with a line more
abbrev pub with_line : List ℕ → ℕ → List ℕ
with_line masks line = slice_set masks (line / 64) (bit_or (slice_index masks (line / 64)) (2 ^ (line % 64)))

-- the line is in the set
abbrev pub HasLine : List ℕ → ℕ → Type 0
HasLine masks line = IsBitSet (slice_index masks (line / 64)) (line % 64)

-- the eight words of a line
abbrev pub line_words : List ℕ → ℕ → List ℕ
line_words words line = take 8 (drop (8 * line) words)

-- how many pages have a line in the set
abbrev pub page_total : List ℕ → ℕ
page_total masks = sum_by (λ mask. min mask 1) masks

-- the marked lines of a page went from both sets
pub record IsCleared (stored marked stored_new marked_new : List ℕ) (page : ℕ) : Type 0 where
  pub marked_is : slice_index marked_new page ≡ 0
  pub stored_is : slice_index stored_new page ≡ bit_and (slice_index stored page) (2 ^ 64 - 1 - slice_index marked page)

-- both sets have the same lines of a page as before
pub record IsKept (stored marked stored_new marked_new : List ℕ) (page : ℕ) : Type 0 where
  pub marked_is : slice_index marked_new page ≡ slice_index marked page
  pub stored_is : slice_index stored_new page ≡ slice_index stored page
