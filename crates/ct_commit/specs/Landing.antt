-- Where a crash lands, told by the objects that are there.
use Rattle.std.specs.Prelude.{◌≡◌, ◌⊎◌, ℕ, List}
use Rattle.ct_base.specs.Objects.{Object}
use Rattle.ct_base.specs.Rules.{Sound}
use Rattle.ct_base.specs.Settled.{settled}
use Rattle.ct_tree.specs.Lands.{HasHead, files}

-- the image is sound once settled, and has these objects then
pub record LandsAs (fs : ℕ → Object) (image : List ℕ) : Type 0 where
  pub head : HasHead image
  pub sound : Sound (settled image)
  pub objects : files (settled image) ≡ fs

-- one or the other objects
abbrev pub LandsOnEither : (ℕ → Object) → (ℕ → Object) → List ℕ → Type 0
LandsOnEither fs gs image = LandsAs fs image ⊎ LandsAs gs image
