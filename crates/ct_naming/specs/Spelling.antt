-- The names in a directory, as a list of what is sorted of them. The rest of a name is read on the device.
use Rattle.std.specs.Prelude.{◌≡◌, ◌≢◌, ℕ, ◌+◌, ◌<◌, ◌==◌, Bool, List, ◌∷◌, length, slice_index_or, Contains, All}
use Rattle.std.specs.List.{IsDistinct}
use Rattle.ct_base.specs.declared.inode.Inode.{Inode}
use Rattle.ct_base.specs.Objects.{Object}
use Rattle.ct_base.specs.Slots.{IsSlot, slot_name}
use Rattle.ct_dir.specs.Directory.{dir_of}
use Rattle.ct_dir.specs.Sorting.{name_key, name_word, slot_place}
use Rattle.ct_naming.specs.declared.spelled.Spelled.{Spelled}

-- what names are sorted by: the word that is kept, and then all
abbrev pub key : List ℕ → Inode → Spelled → List ℕ
key img dir s = s.first ∷ name_key img dir s.offset

-- it is the name of the slot at the offset
pub record IsSpelled (img : List ℕ) (dir : Inode) (s : Spelled) : Type 0 where
  pub slot : IsSlot (dir_of img dir) s.offset
  pub first : s.first ≡ name_word img (slot_place img dir s.offset) 0

-- the list has the name of the slot at an offset
pub record HasSpelled (xs : List Spelled) (o : ℕ) : Type 0 where
  pub name : Spelled
  pub has : Contains xs name
  pub is : name.offset ≡ o

abbrev pub same_slot : Spelled → Spelled → Bool
same_slot s t = s.offset == t.offset

-- the names of all slots of the directory, one for each
pub record AreSpelled (img : List ℕ) (dir : Inode) (xs : List Spelled) : Type 0 where
  pub each : All (IsSpelled img dir) xs
  pub all : (o : ℕ) → IsSlot (dir_of img dir) o → HasSpelled xs o
  pub once : IsDistinct same_slot xs

-- those of the slots before an offset, by rising offset
pub record Spells (img : List ℕ) (dir : Inode) (at : ℕ) (xs : List Spelled) : Type 0 where
  pub each : All (IsSpelled img dir) xs
  pub low : All (λ s. s.offset < at) xs
  pub all : (o : ℕ) → o < at → IsSlot (dir_of img dir) o → HasSpelled xs o
  pub rises : (i j : ℕ) (d : Spelled) → i < j → j < length xs → (slice_index_or xs i d).offset < (slice_index_or xs j d).offset

-- neighbours differ
abbrev pub AreNeighboursApart : List ℕ → Inode → List Spelled → Type 0
AreNeighboursApart img dir xs = (k : ℕ) (d : Spelled) → k + 1 < length xs → key img dir (slice_index_or xs k d) ≢ key img dir (slice_index_or xs (k + 1) d)

-- two slots of the directory have different names
abbrev pub AreSlotsApart : Object → Type 0
AreSlotsApart f = (o k : ℕ) → IsSlot f o → IsSlot f k → slot_name f o ≡ slot_name f k → o ≡ k
