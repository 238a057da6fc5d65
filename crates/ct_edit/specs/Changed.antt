-- What becomes of the objects when a call changes the bytes of one file.
use Rattle.std.specs.Prelude.{◌≡◌, ◌≢◌, ◌⊎◌, ℕ, List}
use Rattle.ct_base.specs.Objects.{Object}
use Rattle.ct_tree.specs.Stands.{IsFile}
use Rattle.ct_commit.specs.Landing.{LandsAs}

-- file i has its bytes changed, and each other object is as it was
pub record Changes (fs gs : ℕ → Object) (i : ℕ) (change : List ℕ → List ℕ) : Type 0 where
  pub file : (was : List ℕ) → IsFile (fs i) was → IsFile (gs i) (change was)
  pub others : (j : ℕ) → j ≢ i → gs j ≡ fs j

-- the image lands on the objects with the change
pub record LandsChanged (fs : ℕ → Object) (i : ℕ) (change : List ℕ → List ℕ) (image : List ℕ) : Type 0 where
  pub after : ℕ → Object
  pub lands : LandsAs after image
  pub changes : Changes fs after i change

-- it lands on the objects as they were, or with the change
abbrev pub ChangesOrNot : (ℕ → Object) → ℕ → (List ℕ → List ℕ) → List ℕ → Type 0
ChangesOrNot fs i change image = LandsAs fs image ⊎ LandsChanged fs i change image
