-- The slots of a directory and their names.
use Rattle.std.specs.Prelude.{◌≡◌, ◌≢◌, ℕ, zero, suc, ◌+◌, ◌/◌, ◌%◌, ◌<◌, ◌==◌, if◌then◌else◌, List, [], ◌∷◌}
use Rattle.ct_base.specs.Inode.{little}
use Rattle.ct_base.specs.Objects.{Object}
use Rattle.ct_base.specs.declared.layout.TheConstants.{ENTRY_BYTES}

-- the n bytes from a place on
unfoldable pub bytes_from : (ℕ → ℕ) → ℕ → ℕ → List ℕ
bytes_from b v zero = []
bytes_from b v (suc n) = b v ∷ bytes_from b (v + 1) n

-- what the 256 bytes of a slot say: word 0 is the inode and the length, and the name follows
abbrev pub slot_inode : Object → ℕ → ℕ
slot_inode f o = little f.at o 4

abbrev pub slot_length : Object → ℕ → ℕ
slot_length f o = little f.at (o + 4) 4

abbrev pub slot_name : Object → ℕ → List ℕ
slot_name f o = bytes_from f.at (o + 8) (slot_length f o)

-- a directory's slot that is not empty, by its offset
pub record IsSlot (f : Object) (o : ℕ) : Type 0 where
  pub dir : f.kind ≡ 2
  pub below : o < f.size
  pub aligned : o % ENTRY_BYTES ≡ 0
  pub used : little f.at o 256 ≢ 0

pub record Entry : Type 0 where
  pub offset : ℕ
  pub inode : ℕ
  pub name : List ℕ

abbrev pub entry_at : Object → ℕ → Entry
entry_at f o = record { offset = o; inode = slot_inode f o; name = slot_name f o }

-- the entries of n slots from an offset on
unfoldable pub entries_from : Object → ℕ → ℕ → List Entry
entries_from f o zero = []
entries_from f o (suc n) = if little f.at o 256 == 0 then entries_from f (o + ENTRY_BYTES) n else entry_at f o ∷ entries_from f (o + ENTRY_BYTES) n

abbrev pub entries : Object → List Entry
entries f = entries_from f 0 (f.size / ENTRY_BYTES)

-- the offset of the first empty slot of n from an offset on, and where there is none the end
unfoldable pub free_slot_from : Object → ℕ → ℕ → ℕ
free_slot_from f o zero = o
free_slot_from f o (suc n) = if little f.at o 256 == 0 then o else free_slot_from f (o + ENTRY_BYTES) n

-- where a new entry goes
abbrev pub free_slot : Object → ℕ
free_slot f = free_slot_from f 0 (f.size / ENTRY_BYTES)

-- a slot of directory i names inode c
pub record Names (fs : ℕ → Object) (i o c : ℕ) : Type 0 where
  pub slot : IsSlot (fs i) o
  pub child : slot_inode (fs i) o ≡ c

-- inode c is reached from inode 1 by k slots, each in the directory that the one before names
unfoldable pub Steps : (ℕ → Object) → ℕ → ℕ → Type 0
Steps fs zero c = c ≡ 1
Steps fs (suc k) c = (i : ℕ) × (o : ℕ) × Names fs i o c × Steps fs k i
