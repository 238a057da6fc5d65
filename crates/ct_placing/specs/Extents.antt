-- The partitions of the live inodes as a list of extents.
use Rattle.std.specs.Prelude.{◌≡◌, ℕ, ◌+◌, ◌<◌, ◌≤◌, ◌==◌, Bool, List, length, slice_index_or, Contains, All}
use Rattle.std.specs.List.{IsDistinct}
use Rattle.ct_base.specs.Inode.{inode, part_end}
use Rattle.ct_base.specs.Rules.{Owns, part_of}
use Rattle.ct_placing.specs.declared.extent.Extent.{Extent}

-- the extent is the partition of its inode
pub record IsExtent (b : ℕ → ℕ) (count : ℕ) (e : Extent) : Type 0 where
  pub owns : Owns b count e.inode
  pub base : e.base ≡ (inode b e.inode).base
  pub end : e.end ≡ part_end (part_of b e.inode)

-- one of the extents is of the inode
pub record HasExtent (xs : List Extent) (i : ℕ) : Type 0 where
  pub extent : Extent
  pub has : Contains xs extent
  pub is : extent.inode ≡ i

abbrev pub same_inode : Extent → Extent → Bool
same_inode e f = e.inode == f.inode

-- the extents are the partitions of the live inodes, one for each
pub record AreExtents (b : ℕ → ℕ) (count : ℕ) (xs : List Extent) : Type 0 where
  pub each : All (IsExtent b count) xs
  pub all : (i : ℕ) → Owns b count i → HasExtent xs i
  pub once : IsDistinct same_inode xs

-- each extent ends where the next one begins, or before
abbrev pub AreInOrder : List Extent → Type 0
AreInOrder xs = (k : ℕ) (d : Extent) → k + 1 < length xs → (slice_index_or xs k d).end ≤ (slice_index_or xs (k + 1) d).base

-- the partitions of the live inodes below number n
pub record Collects (b : ℕ → ℕ) (count n : ℕ) (xs : List Extent) : Type 0 where
  pub each : All (IsExtent b count) xs
  pub low : All (λ e. e.inode < n) xs
  pub all : (i : ℕ) → Owns b count i → i < n → HasExtent xs i
  pub rises : (i j : ℕ) (d : Extent) → i < j → j < length xs → (slice_index_or xs i d).inode < (slice_index_or xs j d).inode

-- an extent with the base ends there
pub record EndsAt (xs : List Extent) (base end : ℕ) : Type 0 where
  pub extent : Extent
  pub has : Contains xs extent
  pub from : extent.base ≡ base
  pub to : extent.end ≡ end
