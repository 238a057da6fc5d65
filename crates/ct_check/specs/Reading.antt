-- What was read of the tables, level by level, and what was met. The tables of a level are read in the order of their pages,
-- so that what was read of a level are the entries that stand below a word.
use Rattle.std.specs.Prelude.{◌≡◌, ◌≢◌, ◌⊎◌, ℕ, suc, ◌+◌, ◌*◌, ◌/◌, ◌%◌, ◌<◌, ◌≤◌, Bool, true, false, List, length}
use Rattle.ct_base.specs.declared.layout.TheConstants.{PAGE_WORDS, TABLE_ENTRIES}
use Rattle.ct_base.specs.Walk.{word, page_count, page_at, next}
use Rattle.ct_marks.specs.Marks.{is_marked}

-- the word of the entry that leads to cell (e + 1, y)
abbrev pub slot_of : List ℕ → ℕ → ℕ → ℕ
slot_of img e y = page_at img e (y / TABLE_ENTRIES) * PAGE_WORDS + y % TABLE_ENTRIES

-- the entry that leads to cell (e + 1, y) was read: d levels were, and of the next one the entries that stand below word b
abbrev pub IsRead : List ℕ → ℕ → ℕ → ℕ → ℕ → Type 0
IsRead img d b e y = (e < d) ⊎ ((e ≡ d) × (slot_of img e y < b))

-- the page is a cell of a depth
pub record IsAt (img : List ℕ) (d page : ℕ) : Type 0 where
  pub cell : ℕ
  pub is : page_at img d cell ≡ page
  pub there : page ≢ 0

-- the marked pages are the cells of a depth
pub record IsLevel (img : List ℕ) (d : ℕ) (marks : List ℕ) : Type 0 where
  pub size : length marks ≡ page_count img
  pub from : (p : ℕ) → is_marked marks p ≡ true → IsAt img d p
  pub all : (y : ℕ) → page_at img d y ≢ 0 → is_marked marks (page_at img d y) ≡ true

-- the marked pages are cells of depth d + 1, and all those are marked whose entry was read
pub record Names (img : List ℕ) (d b : ℕ) (marks : List ℕ) : Type 0 where
  pub size : length marks ≡ page_count img
  pub from : (p : ℕ) → is_marked marks p ≡ true → IsAt img (suc d) p
  pub all : (y : ℕ) → slot_of img d y < b → page_at img (suc d) y ≢ 0 → is_marked marks (page_at img (suc d) y) ≡ true

-- the page is a cell whose entry was read
pub record IsMet (img : List ℕ) (d b page : ℕ) : Type 0 where
  pub depth : ℕ
  pub cell : ℕ
  pub read : IsRead img d b depth cell
  pub is : page_at img (suc depth) cell ≡ page
  pub there : page ≢ 0

-- two cells have one page
pub record IsTwice (img : List ℕ) : Type 0 where
  pub depth : ℕ
  pub cell : ℕ
  pub depth_too : ℕ
  pub cell_too : ℕ
  pub deep : depth ≤ 4
  pub deep_too : depth_too ≤ 4
  pub there : page_at img depth cell ≢ 0
  pub same : page_at img depth cell ≡ page_at img depth_too cell_too
  pub apart : depth ≡ depth_too → cell ≡ cell_too → ⊥

-- an entry of a cell is neither 0 nor names a page
pub record IsBad (img : List ℕ) : Type 0 where
  pub depth : ℕ
  pub cell : ℕ
  pub entry : ℕ
  pub deep : depth ≤ 3
  pub low : entry < TABLE_ENTRIES
  pub there : page_at img depth cell ≢ 0
  pub none : next img (page_at img depth cell) entry ≡ 0
  pub set : word img (page_at img depth cell * PAGE_WORDS + entry) ≢ 0

-- what holds of the entries that were read, and of the pages that were met
pub record Walked (img : List ℕ) (d b : ℕ) (pages : List ℕ) (twice : Bool) : Type 0 where
  pub size : length pages ≡ page_count img
  pub from : (p : ℕ) → is_marked pages p ≡ true → IsMet img d b p
  pub all : (e y : ℕ) → IsRead img d b e y → page_at img (suc e) y ≢ 0 → is_marked pages (page_at img (suc e) y) ≡ true
  pub good : (e y : ℕ) → IsRead img d b e y → page_at img e (y / TABLE_ENTRIES) ≢ 0 → page_at img (suc e) y ≡ 0 → word img (slot_of img e y) ≡ 0
  pub again : twice ≡ true → IsTwice img
  pub once : twice ≡ false → (e y f z : ℕ) → IsRead img d b e y → IsRead img d b f z → page_at img (suc e) y ≢ 0 → page_at img (suc e) y ≡ page_at img (suc f) z
      → (e ≡ f) × (slot_of img e y ≡ slot_of img f z)

-- d levels were read, and of the next one the entries that stand below word b
pub record Reads (img : List ℕ) (d b : ℕ) (marks pages : List ℕ) (twice : Bool) : Type 0 where
  pub deep : d ≤ 3
  pub names : Names img d b marks
  pub walked : Walked img d b pages twice
