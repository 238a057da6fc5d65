-- What the calls of the walk answer, and what they ask of the tables.
use Rattle.std.specs.Prelude.{◌≡◌, ◌≢◌, ℕ, zero, suc, ◌+◌, ◌-◌, ◌*◌, ◌/◌, ◌^◌, ◌<◌, ◌≤◌, List, length, Option, Some, None}
use Rattle.ct_base.specs.declared.layout.TheConstants.{FIRST_PAGE, PAGE_WORDS, TABLE_ENTRIES}
use Rattle.ct_base.specs.Walk.{word, next, page_at, page_count}

-- a page as the calls give it, where 0 stands for none
abbrev pub some_page : ℕ → Option ℕ
some_page zero = None
some_page (suc page) = Some (suc page)

-- each entry that is reached from the root is 0, or names a page of the device
pub record AreEntries (img : List ℕ) : Type 0 where
  pub some : FIRST_PAGE * PAGE_WORDS ≤ length img
  pub there : PAGE_WORDS * page_count img ≤ length img
  pub entries : (d x i : ℕ) → d ≤ 3 → i < TABLE_ENTRIES → page_at img d x ≢ 0 → next img (page_at img d x) i ≡ 0 → word img (page_at img d x * PAGE_WORDS + i) ≡ 0

-- the page is that of some cell of this depth
pub record IsTable (img : List ℕ) (depth page : ℕ) : Type 0 where
  pub cell : ℕ
  pub is : page_at img depth cell ≡ page
  pub there : page ≢ 0

-- the page is that of some table
pub record IsSomeTable (img : List ℕ) (page : ℕ) : Type 0 where
  pub depth : ℕ
  pub low : depth ≤ 3
  pub table : IsTable img depth page

-- the page after so many index steps on the way to virtual page n
abbrev pub on_way : List ℕ → ℕ → ℕ → ℕ
on_way img n d = page_at img d (n / TABLE_ENTRIES ^ (4 - d))
