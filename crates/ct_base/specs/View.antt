-- What an image holds at its addresses. Root slots 2 to 9 are staging and are not looked at.
use Rattle.std.specs.Prelude.{ℕ, ◌*◌, nat_lt, nat_le, ◌&&◌, ◌||◌, Bool, if◌then◌else◌, List}
use Rattle.ct_base.specs.Walk.{word, byte}
use Rattle.ct_base.specs.declared.layout.TheConstants.{ADDRESS_END, PARTITION_SLOT, SLOT_SPAN}

-- the address lies in root slot 0 or 1, or in one of 10 to 511
abbrev pub is_seen : ℕ → Bool
is_seen v = nat_lt v (2 * SLOT_SPAN) || (nat_le (PARTITION_SLOT * SLOT_SPAN) v && nat_lt v ADDRESS_END)

-- the bytes by address, 0 where nothing is looked at
unfoldable pub view : List ℕ → ℕ → ℕ
view img v = if is_seen v then byte img v else 0

-- how many inodes there are
abbrev pub inode_count : List ℕ → ℕ
inode_count img = word img 3
