-- Four changes of the objects, each of one object: a slot is emptied, a slot names an object, an object goes, one comes.
use Rattle.std.specs.Prelude.{◌≡◌, ◌≢◌, ℕ, ◌+◌, ◌-◌, ◌*◌, ◌%◌, ◌/◌, ◌^◌, ◌<◌, ◌≤◌, ◌==◌, ◌&&◌, nat_le, nat_lt, max, if◌then◌else◌, List, length, slice_index}
use Rattle.ct_base.specs.declared.layout.TheConstants.{DIRECTORY_KIND, ENTRY_BYTES}
use Rattle.ct_base.specs.Inode.{little}
use Rattle.ct_base.specs.Objects.{Object, no_object}
use Rattle.ct_base.specs.Slots.{IsSlot, slot_name}
use Rattle.ct_state.specs.Links.{Holds}

abbrev pub with_object : (ℕ → Object) → ℕ → Object → ℕ → Object
with_object fs i f j = if j == i then f else fs j

-- the slot at o is all zero
abbrev pub without_slot : Object → ℕ → Object
without_slot f o = record { kind = f.kind; size = f.size; at = λ k. if nat_le o k && nat_lt k (o + ENTRY_BYTES) then 0 else f.at k }

-- byte k of a slot that says that object i has the name x
abbrev pub slot_byte : ℕ → List ℕ → ℕ → ℕ
slot_byte i x k = if nat_lt k 8 then (i + 4294967296 * length x) / 256 ^ k % 256 else slice_index x (k - 8)

-- the slot at o says that, and where it is the first past the size the size takes it in
abbrev pub with_slot : Object → ℕ → ℕ → List ℕ → Object
with_slot f o i x =
    record { kind = f.kind; size = max f.size (o + ENTRY_BYTES); at = λ k. if nat_le o k && nat_lt k (o + ENTRY_BYTES) then slot_byte i x (k - o) else f.at k }

abbrev pub detach : (ℕ → Object) → ℕ → ℕ → ℕ → Object
detach fs d o = with_object fs d (without_slot (fs d) o)

abbrev pub attach : (ℕ → Object) → ℕ → ℕ → ℕ → List ℕ → ℕ → Object
attach fs d o i x = with_object fs d (with_slot (fs d) o i x)

abbrev pub discard : (ℕ → Object) → ℕ → ℕ → Object
discard fs i = with_object fs i no_object

abbrev pub fresh : (ℕ → Object) → ℕ → ℕ → ℕ → Object
fresh fs i kind = with_object fs i (record { kind = kind; size = 0; at = λ k. 0 })

-- the object is zero past its size
abbrev pub HasTail : Object → Type 0
HasTail f = (k : ℕ) → f.size ≤ k → f.at k ≡ 0

-- a directory changes in its slot at o alone, and may get longer
pub record Rewrites (f g : Object) (o : ℕ) : Type 0 where
  pub dir : f.kind ≡ DIRECTORY_KIND
  pub kind : g.kind ≡ f.kind
  pub tail : HasTail f
  pub room : f.size ≤ g.size
  pub kept : (k m : ℕ) → k % ENTRY_BYTES ≡ 0 → k ≢ o → m < ENTRY_BYTES → g.at (k + m) ≡ f.at (k + m)

-- the slot at o of directory d is emptied
pub record Detaches (fs gs : ℕ → Object) (d o : ℕ) : Type 0 where
  pub others : (j : ℕ) → j ≢ d → gs j ≡ fs j
  pub rewrites : Rewrites (fs d) (gs d) o
  pub empty : little (gs d).at o ENTRY_BYTES ≡ 0

-- it says that object i has the name x
pub record Attaches (fs gs : ℕ → Object) (d o i : ℕ) (x : List ℕ) : Type 0 where
  pub others : (j : ℕ) → j ≢ d → gs j ≡ fs j
  pub rewrites : Rewrites (fs d) (gs d) o
  pub holds : Holds (gs d) o i x

-- no slot has the name
abbrev pub IsFresh : Object → List ℕ → Type 0
IsFresh f x = (k : ℕ) → IsSlot f k → slot_name f k ≢ x

-- a slot may stand at o
pub record IsPlace (f : Object) (o : ℕ) : Type 0 where
  pub dir : f.kind ≡ DIRECTORY_KIND
  pub tail : HasTail f
  pub aligned : o % ENTRY_BYTES ≡ 0
