-- The slots of a directory in the byte order of their names.
use Rattle.std.specs.Prelude.{ℕ, zero, suc, ◌+◌, ◌*◌, ◌/◌, ◌%◌, ◌^◌, ◌==◌, if◌then◌else◌, List, [], ◌∷◌, Option, Some, None, Contains, All}
use Rattle.std.specs.Int.{w64, swap_bytes}
use Rattle.std.specs.List.{IsDistinct}
use Rattle.std.specs.List.Sorted.{IsSortedByKey}
use Rattle.ct_base.specs.declared.inode.Inode.{Inode}
use Rattle.ct_base.specs.declared.layout.TheConstants.{ENTRY_BYTES, ENTRY_WORDS, PAGE_BYTES, PAGE_WORDS}
use Rattle.ct_base.specs.Objects.{Object}
use Rattle.ct_base.specs.Path.{name_cmp}
use Rattle.ct_base.specs.Slots.{IsSlot, slot_name}
use Rattle.ct_base.specs.Walk.{page_at, word}
use Rattle.ct_dir.specs.declared.names.TheConstants.{NAME_WORDS}

-- the device word of the slot of an offset in a page, where 0 stands for no page
abbrev pub place_in : ℕ → ℕ → Option ℕ
place_in zero o = None
place_in (suc page) o = Some (suc page * PAGE_WORDS + o % PAGE_BYTES / ENTRY_BYTES * ENTRY_WORDS)

-- the device word of the slot at an offset of a directory
abbrev pub slot_place : List ℕ → Inode → ℕ → Option ℕ
slot_place img dir o = place_in (page_at img 4 ((dir.base + o) / PAGE_BYTES)) o

-- word k by which the name in the slot at a place is ordered: those that hold it, the first byte highest, and then its length; 0
-- where there is no place
abbrev pub name_word : List ℕ → Option ℕ → ℕ → ℕ
name_word img None k = 0
name_word img (Some place) k = if k == NAME_WORDS then word img place / 2 ^ 32 else swap_bytes w64 (word img (place + 1 + k))

-- n values of a function, from k on
unfoldable pub values : (ℕ → ℕ) → ℕ → ℕ → List ℕ
values f k zero = []
values f k (suc n) = f k ∷ values f (k + 1) n

-- what the name in the slot at an offset is ordered by
abbrev pub name_key : List ℕ → Inode → ℕ → List ℕ
name_key img dir o = values (name_word img (slot_place img dir o)) 0 ENTRY_WORDS

-- the offsets of the slots that are used, one for each
pub record AreOffsets (f : Object) (xs : List ℕ) : Type 0 where
  pub each : All (IsSlot f) xs
  pub all : (o : ℕ) → IsSlot f o → Contains xs o
  pub once : IsDistinct ◌==◌ xs

-- and these in the byte order of their names
pub record AreSorted (f : Object) (xs : List ℕ) : Type 0 where
  pub offsets : AreOffsets f xs
  pub sorted : IsSortedByKey (slot_name f) name_cmp xs
