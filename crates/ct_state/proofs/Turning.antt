-- One slot of one directory changes: what it named is the orphan then, and it names what was the orphan.
use Rattle.std.specs.Prelude.{◌≡◌, ◌≢◌, ℕ, ◌+◌, ◌<◌, ◌≤◌, List, true}
use Rattle.ct_base.specs.Objects.{Object}
use Rattle.ct_base.specs.Path.{is_name}
use Rattle.ct_base.specs.Slots.{IsSlot, slot_inode, slot_length, slot_name}
use Rattle.ct_state.specs.Links.{Holds}

-- the slot at k says in g what it says in f
pub record Kept (f g : Object) (k : ℕ) : Type 0 where
  pub slot : IsSlot g k
  pub inode : slot_inode g k ≡ slot_inode f k
  pub length : slot_length g k ≡ slot_length f k
  pub name : slot_name g k ≡ slot_name f k
  pub bytes : (m : ℕ) → m < 256 → g.at (k + m) ≡ f.at (k + m)

-- directory d changes in the slot at o alone
pub record Turns (fs gs : ℕ → Object) (d o : ℕ) : Type 0 where
  pub others : (j : ℕ) → j ≢ d → gs j ≡ fs j
  pub was : (fs d).kind ≡ 2
  pub is : (gs d).kind ≡ 2
  pub on : (k : ℕ) → k ≢ o → IsSlot (fs d) k → Kept (fs d) (gs d) k
  pub back : (k : ℕ) → k ≢ o → IsSlot (gs d) k → IsSlot (fs d) k

-- the slot names x: first b and then a, where 1 is no object and the slot is empty
pub record Relinks (fs gs : ℕ → Object) (d o : ℕ) (x : List ℕ) (a b : ℕ) : Type 0 where
  pub turns : Turns fs gs d o
  pub before : IsSlot (fs d) o → (slot_inode (fs d) o ≡ b) × (slot_name (fs d) o ≡ x)
  pub there : b ≢ 1 → IsSlot (fs d) o
  pub after : IsSlot (gs d) o → Holds (gs d) o a x × (a ≢ 1)
  pub here : a ≢ 1 → IsSlot (gs d) o
  pub fresh : (k : ℕ) → k ≢ o → IsSlot (fs d) k → slot_name (fs d) k ≢ x

-- an object without slots changes
pub record Bares (fs gs : ℕ → Object) (i : ℕ) : Type 0 where
  pub others : (j : ℕ) → j ≢ i → gs j ≡ fs j
  pub was : (k : ℕ) → IsSlot (fs i) k → ⊥
  pub is : (k : ℕ) → IsSlot (gs i) k → ⊥
