-- Where a file has pages, and where it has none and so reads as zeros.
use Rattle.std.specs.Prelude.{◌≡◌, ◌≢◌, ℕ, ◌+◌, ◌%◌, ◌<◌, ◌≤◌, List, length, Option, Some, None, slice_index}
use Rattle.ct_base.specs.Inode.{inode}
use Rattle.ct_base.specs.View.{view}
use Rattle.ct_base.specs.Walk.{walk}
use Rattle.ct_base.specs.declared.layout.TheConstants.{PAGE_BYTES, SLOT_SPAN}
use Rattle.ct_tree.specs.Need.{IsAt}

-- none of the addresses from one on has a page, up to another
abbrev pub AreUnmapped : List ℕ → ℕ → ℕ → Type 0
AreUnmapped img from to = (v : ℕ) → from ≤ v → v < to → walk img v ≡ 0

-- the hole around an address reaches from there to here at least, and ends with a page
pub record IsHole (img : List ℕ) (from to : ℕ) : Type 0 where
  pub later : from < to
  pub near : to ≤ from + SLOT_SPAN
  pub whole : to % PAGE_BYTES ≡ 0
  pub empty : AreUnmapped img from to

-- the first address that has a page, from one on and before another; it begins the page where the first one does
pub record IsNextMapped (img : List ℕ) (from to v : ℕ) : Type 0 where
  pub later : from ≤ v
  pub before : v < to
  pub empty : AreUnmapped img from v
  pub mapped : walk img v ≢ 0
  pub whole : from % PAGE_BYTES ≡ 0 → v % PAGE_BYTES ≡ 0

-- the bytes from one offset on are 0, up to another
abbrev pub AreZeros : List ℕ → ℕ → ℕ → Type 0
AreZeros bytes from to = (k : ℕ) → from ≤ k → k < to → slice_index bytes k ≡ 0

-- the data come next at this offset of a file, at the earliest: all bytes before it are 0
pub record AreNext (bytes : List ℕ) (off next : ℕ) : Type 0 where
  pub later : off ≤ next
  pub within : next < length bytes
  pub zeros : AreZeros bytes off next
  pub whole : off % PAGE_BYTES ≡ 0 → next % PAGE_BYTES ≡ 0

-- where the data of a file come next, from an offset on; where none come, all bytes up to its end are 0
abbrev pub IsNextData : List ℕ → ℕ → Option ℕ → Type 0
IsNextData bytes off None = AreZeros bytes off (length bytes)
IsNextData bytes off (Some next) = AreNext bytes off next

-- the file at a path has a page there
abbrev pub IsMappedAt : List ℕ → List ℕ → ℕ → Type 0
IsMappedAt img path off = (i : ℕ) × IsAt img path i × (walk img ((inode (view img) i).base + off) ≢ 0)
