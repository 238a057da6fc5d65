-- The objects once an entry is gone with its object, and where a crash lands until then.
use Rattle.std.specs.Prelude.{◌⊎◌, ℕ, List}
use Rattle.ct_base.specs.Objects.{Object}
use Rattle.ct_state.specs.Edits.{detach, discard}
use Rattle.ct_commit.specs.Landing.{LandsAs}

-- the slot at an offset of directory dir is empty, and object i is gone
abbrev pub removed : (ℕ → Object) → ℕ → ℕ → ℕ → ℕ → Object
removed fs dir offset i = discard (detach fs dir offset) i

-- the object is there, or it is gone
abbrev pub RemovedOrNot : (ℕ → Object) → ℕ → ℕ → ℕ → List ℕ → Type 0
RemovedOrNot fs dir offset i image = LandsAs fs image ⊎ LandsAs (removed fs dir offset i) image
