-- What a directory holds, as the words of a device show it.
use Rattle.std.specs.Prelude.{◌≡◌, ◌≢◌, ℕ, ◌+◌, ◌<◌, ◌≤◌, true, List, Option, Some, None}
use Rattle.std.specs.Option.{option_map}
use Rattle.std.specs.Borrow.{Bor}
use Rattle.std.specs.declared.cmp.Ordering.TheVariants.{Less}
use Rattle.ct_base.specs.declared.inode.Inode.{Inode}
use Rattle.ct_base.specs.declared.TheConstants.{NAME_BYTES}
use Rattle.ct_base.specs.declared.layout.TheConstants.{DIRECTORY_KIND, ENTRY_BYTES}
use Rattle.ct_base.specs.Named.{Named}
use Rattle.ct_base.specs.Objects.{Object, object_of}
use Rattle.ct_base.specs.Path.{is_name, name_cmp}
use Rattle.ct_base.specs.Rules.{IsPlaced}
use Rattle.ct_base.specs.Slots.{IsSlot, free_slot, slot_inode, slot_length, slot_name}
use Rattle.ct_base.specs.View.{view}
use Rattle.ct_base.specs.Walk.{AreTables}
use Rattle.ct_dir.specs.declared.lookup.Found.{Found}
use Rattle.ct_dir.specs.declared.lookup.NameSlot.{NameSlot}
use Rattle.ct_dir.specs.declared.lookup.NameSlot.TheVariants.{Free, Taken}

-- the directory of an inode
abbrev pub dir_of : List ℕ → Inode → Object
dir_of img dir = object_of (view img) dir

-- what the format asks of a slot that is used: some inode, and a name that is padded with zeros
pub record IsText (f : Object) (o : ℕ) : Type 0 where
  pub some : slot_inode f o ≢ 0
  pub length : slot_length f o ≤ NAME_BYTES
  pub name : is_name (slot_name f o) ≡ true
  pub padding : (k : ℕ) → 8 + slot_length f o ≤ k → k < ENTRY_BYTES → f.at (o + k) ≡ 0

-- what each call asks of a directory that it reads
pub record IsReadable (img : List ℕ) (dir : Inode) : Type 0 where
  pub tables : AreTables img
  pub kind : dir.kind ≡ DIRECTORY_KIND
  pub placed : IsPlaced dir
  pub texts : (o : ℕ) → IsSlot (dir_of img dir) o → IsText (dir_of img dir) o

-- the slots from an offset to another are all empty
abbrev pub AreEmpty : Object → ℕ → ℕ → Type 0
AreEmpty f from to = (o : ℕ) → from ≤ o → o < to → IsSlot f o → ⊥

-- none of the slots before an offset has the name
abbrev pub HaveOther : Object → List ℕ → ℕ → Type 0
HaveOther f x to = (o : ℕ) → o < to → IsSlot f o → slot_name f o ≡ x → ⊥

-- the first slot with a name, and the inode that it names
pub record IsFirst (f : Object) (x : List ℕ) (found : Found) : Type 0 where
  pub slot : IsSlot f found.offset
  pub name : slot_name f found.offset ≡ x
  pub inode : slot_inode f found.offset ≡ found.inode
  pub first : HaveOther f x found.offset

-- the slot of a name: the first that has it, or the first empty one where none has it
abbrev pub IsSpot : Object → List ℕ → NameSlot → Type 0
IsSpot f x (Taken found) = IsFirst f x found
IsSpot f x (Free offset) = (Named f x → ⊥) × (offset ≡ free_slot f)

-- the name that may be lent
abbrev pub name_in : Option (Bor (List ℕ)) → Option (List ℕ)
name_in after = option_map (λ name. name.now) after

-- the name comes later than the other, or there is no other
abbrev pub IsLater : Option (List ℕ) → List ℕ → Type 0
IsLater None x = Unit {0}
IsLater (Some after) x = name_cmp after x ≡ Less

-- the slot whose name is the least of those later than a name, or of all
pub record IsNext (f : Object) (after : Option (List ℕ)) (o : ℕ) : Type 0 where
  pub slot : IsSlot f o
  pub later : IsLater after (slot_name f o)
  pub least : (k : ℕ) → IsSlot f k → IsLater after (slot_name f k) → name_cmp (slot_name f k) (slot_name f o) ≢ Less
