-- The changes that a step of work may make in an image with well formed tables.
use Rattle.std.specs.Prelude.{◌≡◌, ◌≢◌, ℕ, suc, ◌+◌, ◌*◌, ◌/◌, ◌<◌, ◌≤◌, List, length}
use Rattle.ct_base.specs.declared.layout.TheConstants.{FIRST_PAGE, PAGE_BYTES, PAGE_WORDS, TABLE_ENTRIES}
use Rattle.ct_base.specs.Walk.{word, page_count, page_at, IsFresh, AreTables, AgreeOff}

-- Words of a page p that no cell has become others.
pub record Unreached (old new : List ℕ) (p : ℕ) : Type 0 where
  pub tables : AreTables old
  pub low : FIRST_PAGE ≤ p
  pub fresh : IsFresh old p
  pub others : (w : ℕ) → w / PAGE_WORDS ≢ p → word new w ≡ word old w
  pub size : length new ≡ length old

-- A fresh page p of zeros is linked into entry i of the table of cell (d, x), where the entry was 0.
pub record Links (old new : List ℕ) (d x i p : ℕ) : Type 0 where
  pub tables : AreTables old
  pub depth : d ≤ 3
  pub index : i < TABLE_ENTRIES
  pub table : page_at old d x ≢ 0
  pub absent : page_at old (suc d) (x * TABLE_ENTRIES + i) ≡ 0
  pub low : FIRST_PAGE ≤ p
  pub high : p < page_count old
  pub fresh : IsFresh old p
  pub zeros : (j : ℕ) → j < PAGE_WORDS → word old (p * PAGE_WORDS + j) ≡ 0
  pub entry : word new (page_at old d x * PAGE_WORDS + i) ≡ p * PAGE_BYTES + 1
  pub others : AgreeOff (page_at old d x * PAGE_WORDS + i) old new
  pub size : length new ≡ length old
