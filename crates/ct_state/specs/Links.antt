-- What a slot of a directory says.
use Rattle.std.specs.Prelude.{◌≡◌, ◌≢◌, ℕ, ◌+◌, ◌<◌, ◌≤◌, List, true}
use Rattle.ct_base.specs.declared.TheConstants.{NAME_BYTES}
use Rattle.ct_base.specs.declared.layout.TheConstants.{ENTRY_BYTES}
use Rattle.ct_base.specs.Objects.{Object}
use Rattle.ct_base.specs.Path.{is_name}
use Rattle.ct_base.specs.Slots.{IsSlot, slot_inode, slot_length, slot_name}

-- the slot at o says that object i has the name x
pub record Holds (f : Object) (o i : ℕ) (x : List ℕ) : Type 0 where
  pub slot : IsSlot f o
  pub child : slot_inode f o ≡ i
  pub name : slot_name f o ≡ x
  pub is_name : is_name x ≡ true
  pub length : slot_length f o ≤ NAME_BYTES
  pub padding : (k : ℕ) → 8 + slot_length f o ≤ k → k < ENTRY_BYTES → f.at (o + k) ≡ 0
