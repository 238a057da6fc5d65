-- Where a call that makes or renames an object puts it, and how many pages it takes.
use Rattle.std.specs.Prelude.{◌≡◌, ℕ, ◌+◌, ◌<◌, ◌≤◌, ◌==◌, if◌then◌else◌, false, List, Some, ◌*◌, ◌/◌, length, max}
use Rattle.std.specs.Str.{bytes_eq}
use Rattle.ct_base.specs.declared.inode.Inode.{Inode}
use Rattle.ct_base.specs.Free.{HasFreePages}
use Rattle.ct_base.specs.Inode.{IsPart, inode, part as part_of_inode, part_bytes}
use Rattle.ct_base.specs.Named.{Named}
use Rattle.ct_base.specs.Objects.{Object}
use Rattle.ct_base.specs.Plan.{first_free_number, next_part}
use Rattle.ct_base.specs.Rules.{Owns}
use Rattle.ct_base.specs.Slots.{IsSlot, free_slot, slot_inode, slot_name}
use Rattle.ct_base.specs.View.{view, inode_count}
use Rattle.ct_base.specs.Walk.{walk}
use Rattle.ct_base.specs.declared.layout.TheConstants.{DIRECTORY_KIND, ENTRY_BYTES, FILE_KIND, NO_PARTITION, PAGE_BYTES}
use Rattle.ct_tree.specs.Checks.{names}
use Rattle.ct_tree.specs.Lands.{files}
use Rattle.ct_tree.specs.Need.{Grows, HasNeed, IsParentAt}
use Rattle.ct_tree.specs.Resolve.{last_name}
use Rattle.ct_tree.specs.Step.{Op, append, create, fill, mkdir, rename, write}

-- the slot at an offset of a directory leads to an inode, under a name
pub record HasSlot (f : Object) (offset number : ℕ) (name : List ℕ) : Type 0 where
  pub slot : IsSlot f offset
  pub child : slot_inode f offset ≡ number
  pub named : slot_name f offset ≡ name

-- object i lies in the partition of the level that was the first free one, which is larger, and each offset has the page that
-- it had, but for those whose pages are replaced
pub record IsMoved (Replaced : ℕ → Type 0) (old new : List ℕ) (i level : ℕ) : Type 0 where
  pub base : (inode (view new) i).base ≡ (next_part (view old) (inode_count old) level).base
  pub to : (inode (view new) i).level ≡ level
  pub part : IsPart (part_of_inode (inode (view new) i))
  pub larger : Owns (view old) (inode_count old) i → part_bytes (inode (view old) i).level ≤ part_bytes level
  pub walks : Owns (view old) (inode_count old) i → (v : ℕ) → v < part_bytes (inode (view old) i).level → (Replaced v → ⊥)
      → walk new ((inode (view new) i).base + v) ≡ walk old ((inode (view old) i).base + v)

-- the inode of an empty object
abbrev pub empty_inode : ℕ → Inode
empty_inode kind = record { kind = kind; size = 0; base = 0; level = NO_PARTITION }

-- Directory dir has a name for an inode, which is that of an empty object of a kind. The name has the directory's first slot that
-- was empty, or the one at the end, and the size takes the slot in.
pub record HasNewObject (old new : List ℕ) (dir number kind : ℕ) (name : List ℕ) : Type 0 where
  pub slot : HasSlot (files new dir) (free_slot (files old dir)) number name
  pub object : inode (view new) number ≡ empty_inode kind
  pub size : (inode (view new) dir).size ≡ max (inode (view old) dir).size (free_slot (files old dir) + ENTRY_BYTES)

-- Under a path there is a new object of a kind, whose inode was the lowest free one.
abbrev pub HasEntryAt : List ℕ → List ℕ → List ℕ → ℕ → Type 0
HasEntryAt old new path kind =
    (dir number : ℕ) → IsParentAt old path dir → first_free_number (view old) (inode_count old) ≡ Some number
    → HasNewObject old new dir number kind (last_name (names path))

-- A renamed object: under a name that was there it has that name's slot; under a new one its own slot, where it stays in its
-- directory, and else the first slot of the other directory that was empty, or the one at the end.
abbrev pub RenamesAt : List ℕ → List ℕ → List ℕ → List ℕ → Type 0
RenamesAt old new path to =
    bytes_eq path to ≡ false → (d k o i : ℕ) → IsParentAt old path d → IsParentAt old to k → HasSlot (files old d) o i (last_name (names path))
    → ((s j : ℕ) → HasSlot (files old k) s j (last_name (names to)) → HasSlot (files new k) s i (last_name (names to)))
    × ((Named (files old k) (last_name (names to)) → ⊥) → HasSlot (files new k) (if d == k then o else free_slot (files old k)) i (last_name (names to)))

-- a call that makes or renames an object entered it there
abbrev pub EntersAt : List ℕ → List ℕ → Op → Type 0
EntersAt old new (create path) = HasEntryAt old new path FILE_KIND
EntersAt old new (mkdir path) = HasEntryAt old new path DIRECTORY_KIND
EntersAt old new (rename path to) = RenamesAt old new path to
EntersAt old new op = Unit {0}

-- the offset lies on a page that holds one of len bytes from off on
abbrev pub IsTouched : ℕ → ℕ → ℕ → Type 0
IsTouched off len v = (off / PAGE_BYTES ≤ v / PAGE_BYTES) × (v / PAGE_BYTES * PAGE_BYTES < off + len)

-- the call gives the offset of object i another page
abbrev pub Replaces : List ℕ → Op → ℕ → ℕ → Type 0
Replaces img (write path off bytes) i v = IsTouched off (length bytes) v
Replaces img (fill path off len byte) i v = IsTouched off len v
Replaces img (append path bytes) i v = IsTouched (inode (view img) i).size (length bytes) v
Replaces img op i v = ⊥

-- What the call made is where it belongs, what it grew has moved, and it took no page more than it needs.
pub record Places (old new : List ℕ) (op : Op) : Type 0 where
  pub entry : EntersAt old new op
  pub moved : (i level : ℕ) → Grows old op i level → IsMoved (Replaces old op i) old new i level
  pub taken : (before after need : ℕ) → HasFreePages old before → HasFreePages new after → HasNeed old op need → before ≤ after + need
