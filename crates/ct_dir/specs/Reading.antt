-- What is known of a slot that was met on a device, and of a walk over the slots.
use Rattle.std.specs.Prelude.{◌≡◌, ◌≢◌, ℕ, ◌+◌, ◌*◌, ◌/◌, ◌%◌, ◌<◌, ◌≤◌, List, length}
use Rattle.ct_base.specs.declared.layout.TheConstants.{ENTRY_BYTES, ENTRY_WORDS, PAGE_BYTES}
use Rattle.ct_base.specs.Inode.{little}
use Rattle.ct_base.specs.Objects.{Object}
use Rattle.ct_base.specs.Walk.{word, page_at}
use Rattle.ct_base.specs.Slots.{IsSlot}
use Rattle.ct_walk.specs.Pages.{some_page}
use Rattle.ct_dir.specs.Directory.{IsText}
use Rattle.ct_dir.specs.declared.slot.Slot.{Slot}
use Rattle.ct_dir.specs.declared.slots.Slots.{Slots}

-- the device words of the slot are those of the directory at its offset
pub record Shows (img : List ℕ) (f : Object) (slot : Slot) : Type 0 where
  pub inside : slot.place + ENTRY_WORDS ≤ length img
  pub words : (k : ℕ) → k < ENTRY_WORDS → word img (slot.place + k) ≡ little f.at (slot.offset + 8 * k) 8
  pub head : slot.head ≡ little f.at slot.offset 8

-- the same of a slot that is used
pub record Holds (img : List ℕ) (f : Object) (slot : Slot) : Type 0 where
  pub shows : Shows img f slot
  pub used : IsSlot f slot.offset
  pub text : IsText f slot.offset
  pub small : (k : ℕ) → f.at k < 256

-- the walk stands at a slot, and within a page it has the page of that slot
pub record Stands (img : List ℕ) (slots : Slots) : Type 0 where
  pub aligned : slots.at % ENTRY_BYTES ≡ 0
  pub page : slots.at % PAGE_BYTES ≢ 0 → slots.page ≡ some_page (page_at img 4 ((slots.dir.base + slots.at) / PAGE_BYTES))
