-- The names of an object, from the last one up to inode 1.
use Rattle.std.specs.Prelude.{◌≡◌, ℕ, List, [], ◌∷◌}
use Rattle.ct_base.specs.Named.{Named}
use Rattle.ct_base.specs.Objects.{Object}
use Rattle.ct_base.specs.Slots.{slot_inode}

-- object c has the last of the names, its parent the one before, and so on up to inode 1
unfoldable pub Path : (ℕ → Object) → List (List ℕ) → ℕ → Type 0
Path fs [] c = c ≡ 1
Path fs (x ∷ xs) c = (i : ℕ) × (s : Named (fs i) x) × (slot_inode (fs i) s.offset ≡ c) × Path fs xs i
