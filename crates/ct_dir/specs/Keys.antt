-- The name of a slot, by its words on the device.
use Rattle.std.specs.Prelude.{◌≡◌, ℕ, zero, suc, ◌+◌, ◌*◌, ◌/◌, ◌%◌, ◌^◌, ◌<◌, Option, Some, None, List, length, slice_index}
use Rattle.std.specs.Int.{w64, swap_bytes}
use Rattle.std.specs.Ordering.{nat_cmp, ordering_then}
use Rattle.std.specs.declared.cmp.Ordering.{Ordering}
use Rattle.std.specs.declared.cmp.Ordering.TheVariants.{Equal}
use Rattle.ct_base.specs.Walk.{word}
use Rattle.ct_dir.specs.Packed.{name_words}
use Rattle.ct_dir.specs.declared.names.Key.{Key}
use Rattle.ct_dir.specs.declared.slot.Slot.{Slot}

-- the key is made of a name
pub record IsKey (x : List ℕ) (key : Key) : Type 0 where
  pub words : key.words ≡ name_words x
  pub length : key.length ≡ length x
  pub bytes : (k : ℕ) → slice_index x k < 256

-- the key of the name, where there is one
abbrev pub AreKeys : Option (List ℕ) → Option Key → Type 0
AreKeys None None = Unit {0}
AreKeys None (Some key) = ⊥
AreKeys (Some x) None = ⊥
AreKeys (Some x) (Some key) = IsKey x key

-- word k after the slot's first
abbrev pub word_after : List ℕ → Slot → ℕ → ℕ
word_after img slot k = word img (slot.place + 1 + k)

-- byte i of a word, the lowest first
abbrev pub byte_of : ℕ → ℕ → ℕ
byte_of w i = w / 256 ^ i % 256

-- byte k after the slot's first word
abbrev pub name_byte : List ℕ → Slot → ℕ → ℕ
name_byte img slot k = byte_of (word_after img slot (k / 8)) (k % 8)

-- the slot has a name of the key's length, and the words of the name are the key's
pub record IsSpelled (img : List ℕ) (slot : Slot) (key : Key) : Type 0 where
  pub length : slot.head / 2 ^ 32 ≡ key.length
  pub words : (k : ℕ) → 8 * k < key.length → word_after img slot k ≡ slice_index key.words k

-- n words from word k on, compared by their bytes: the first that differs decides
unfoldable pub words_cmp : (ℕ → ℕ) → (ℕ → ℕ) → ℕ → ℕ → Ordering
words_cmp v w k zero = Equal
words_cmp v w k (suc n) = ordering_then (nat_cmp (swap_bytes w64 (v k)) (swap_bytes w64 (w k))) (words_cmp v w (k + 1) n)
