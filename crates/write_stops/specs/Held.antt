-- A device whose first file may be written.
use Rattle.std.specs.Prelude.{List, ℕ, Option}
use Rattle.ct_frames.specs.Agrees.{Agrees}
use Rattle.ct_frames.specs.Free.{FreePages}
use Rattle.ct_grow.specs.Grown.{IsReady}
use Rattle.ct_pm.specs.Device.{NothingPending}
use Rattle.ct_pm.specs.Images.{History}

-- the words are ready for a call, nothing is pending, and these pages are free
pub record IsHeld (words : List ℕ) (told : Option History) (frames : FreePages) : Type 0 where
  pub ready : IsReady words
  pub settled : NothingPending told
  pub agrees : Agrees words frames
