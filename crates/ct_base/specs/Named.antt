-- Which object a list of names leads to, by the slots of directories.
use Rattle.std.specs.Prelude.{◌≡◌, ℕ, List, [], ◌∷◌}
use Rattle.ct_base.specs.Objects.{Object}
use Rattle.ct_base.specs.Slots.{IsSlot, slot_inode, slot_name}

-- a slot with a name
pub record Named (f : Object) (x : List ℕ) : Type 0 where
  pub offset : ℕ
  pub slot : IsSlot f offset
  pub name : slot_name f offset ≡ x

-- the names lead from object i to object c
unfoldable pub Leads : (ℕ → Object) → ℕ → List (List ℕ) → ℕ → Type 0
Leads fs i [] c = i ≡ c
Leads fs i (x ∷ xs) c = (s : Named (fs i) x) × Leads fs (slot_inode (fs i) s.offset) xs c
