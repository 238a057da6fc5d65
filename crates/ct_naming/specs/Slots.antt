-- Slots that were met on a device.
use Rattle.std.specs.Prelude.{◌≡◌, ℕ, ◌+◌, ◌*◌, ◌/◌, ◌%◌, ◌<◌, ◌≤◌, List, length}
use Rattle.ct_base.specs.declared.inode.Inode.{Inode}
use Rattle.ct_base.specs.declared.layout.TheConstants.{ENTRY_BYTES, ENTRY_WORDS}
use Rattle.ct_base.specs.Inode.{little}
use Rattle.ct_base.specs.Objects.{Object}
use Rattle.ct_base.specs.Slots.{IsSlot}
use Rattle.ct_base.specs.Walk.{word}
use Rattle.ct_dir.specs.Directory.{AreEmpty, dir_of}
use Rattle.ct_dir.specs.Keys.{byte_of}
use Rattle.ct_naming.specs.declared.slot.Look.{Look}
use Rattle.ct_naming.specs.declared.slot.Look.TheVariants.{Used, Empty}
use Rattle.ct_naming.specs.declared.slot.Slot.{Slot}

-- the device words from a place on are those of a slot that is used
pub record Stands (img : List ℕ) (f : Object) (o place : ℕ) : Type 0 where
  pub slot : IsSlot f o
  pub inside : place + ENTRY_WORDS ≤ length img
  pub words : (k : ℕ) → k < ENTRY_WORDS → word img (place + k) ≡ little f.at (o + 8 * k) 8

-- no slot from an offset on is used, up to another
pub record Skips (f : Object) (o next : ℕ) : Type 0 where
  pub on : o < next
  pub aligned : next % ENTRY_BYTES ≡ 0
  pub empty : AreEmpty f o next

abbrev pub Finds : List ℕ → Inode → ℕ → Look → Type 0
Finds img dir o (Used place) = Stands img (dir_of img dir) o place
Finds img dir o (Empty next) = Skips (dir_of img dir) o next

-- the slot is the first from an offset on that is used
pub record Meets (img : List ℕ) (dir : Inode) (from : ℕ) (slot : Slot) : Type 0 where
  pub on : from ≤ slot.offset
  pub stands : Stands img (dir_of img dir) slot.offset slot.place
  pub passed : AreEmpty (dir_of img dir) from slot.offset

-- byte k of the slot at a place
abbrev pub byte_at : List ℕ → ℕ → ℕ → ℕ
byte_at img place k = byte_of (word img (place + k / 8)) (k % 8)
