-- A directory gets a slot with a new object.
use Rattle.std.proofs.Common.{◌≡◌, ◌≢◌, ℕ, ◌+◌, ◌%◌, ◌<◌, ◌≤◌, List}
use Rattle.ct_base.specs.Objects.{Object}
use Rattle.ct_base.specs.Slots.{IsSlot, slot_inode, slot_name}
use Rattle.ct_base.specs.Rules.{IsEntry, AreEntries, AreNamesApart, AreNamed, AreReached}

pub record Adds (fs gs : ℕ → Object) (d o i : ℕ) (x : List ℕ) : Type 0 where
  -- the objects before
  pub entries : AreEntries fs
  pub apart : AreNamesApart fs
  pub named : AreNamed fs
  pub reached : AreReached fs
  pub root : (fs 1).kind ≡ 2
  -- directory d, object i and the slot at o
  pub was : (fs d).kind ≡ 2
  pub is : (gs d).kind ≡ 2
  pub free : (fs i).kind ≡ 0
  pub made : (gs i).kind ≢ 0
  pub empty : (gs i).size ≡ 0
  pub others : (j : ℕ) → j ≢ d → j ≢ i → gs j ≡ fs j
  pub room : (fs d).size ≤ (gs d).size
  pub past : (k : ℕ) → (fs d).size ≤ k → (fs d).at k ≡ 0
  pub whole : (fs d).size % 256 ≡ 0
  pub slot : IsSlot (gs d) o
  pub child : slot_inode (gs d) o ≡ i
  pub name : slot_name (gs d) o ≡ x
  pub entry : IsEntry gs (gs d) o
  pub unused : IsSlot (fs d) o → ⊥
  pub kept : (k m : ℕ) → k % 256 ≡ 0 → k ≢ o → m < 256 → (gs d).at (k + m) ≡ (fs d).at (k + m)
  pub fresh : (k : ℕ) → IsSlot (fs d) k → slot_name (fs d) k ≢ x
