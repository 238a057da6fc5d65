-- A table of cells: a key has one cell in which it may stand, and is known where it stands there.
use Rattle.std.specs.Prelude.{ℕ, ◌+◌, ◌*◌, ◌%◌, ◌==◌, ◌&&◌, Bool, false, if◌then◌else◌, List, Option, Some, None, fold, slice_index_or}
use Rattle.std.specs.Str.{bytes_eq}
use Rattle.ct_dir.specs.declared.lookup.Found.{Found}
use Rattle.ct_cache.specs.declared.cell.NameCell.{NameCell}
use Rattle.ct_cache.specs.declared.cell.PageCell.{PageCell}
use Rattle.ct_cache.specs.declared.cell.TheConstants.{NAME_CELLS, PAGE_CELLS}

-- what a cell tells of a key
abbrev pub told_by : {T K V : Type 0} → (K → K → Bool) → (T → K) → (T → V) → K → Option T → Option V
told_by same key value k None = None
told_by same key value k (Some cell) = if same (key cell) k then Some (value cell) else None

-- what a table tells of a key, by the cell in its place
abbrev pub told_in : {T K V : Type 0} → (K → K → Bool) → (T → K) → (T → V) → (K → ℕ) → List (Option T) → K → Option V
told_in same key value place cells k = told_by same key value k (slice_index_or cells (place k) None)

-- a cell with a key that a test picks
abbrev pub is_picked : {T K : Type 0} → (T → K) → (K → Bool) → Option T → Bool
is_picked key gone None = false
is_picked key gone (Some cell) = gone (key cell)

-- what is left of a cell without such keys
abbrev pub left_by : {T K : Type 0} → (T → K) → (K → Bool) → Option T → Option T
left_by key gone cell = if is_picked key gone cell then None else cell

-- the cell of a virtual page number
abbrev pub page_place : ℕ → ℕ
page_place p = p % PAGE_CELLS

abbrev pub page_key : PageCell → ℕ
page_key cell = cell.number

abbrev pub page_value : PageCell → ℕ
page_value cell = cell.page

abbrev pub same_page : ℕ → ℕ → Bool
same_page p q = p == q

-- the cell of a name in a directory
abbrev pub name_place : ℕ × List ℕ → ℕ
name_place k = fold (λ h byte. h % NAME_CELLS * 31 + byte) k.0 k.1 % NAME_CELLS

abbrev pub name_key : NameCell → ℕ × List ℕ
name_key cell = (cell.directory, cell.name.items)

abbrev pub name_value : NameCell → Found
name_value cell = cell.found

abbrev pub same_name : ℕ × List ℕ → ℕ × List ℕ → Bool
same_name a b = (a.0 == b.0) && bytes_eq a.1 b.1

abbrev pub pages_told : List (Option PageCell) → ℕ → Option ℕ
pages_told cells = told_in same_page page_key page_value page_place cells

abbrev pub names_told : List (Option NameCell) → ℕ × List ℕ → Option Found
names_told cells = told_in same_name name_key name_value name_place cells
