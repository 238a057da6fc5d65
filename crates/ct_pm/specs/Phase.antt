-- What a stretch of work leaves at each of its moments.
use Rattle.std.specs.Prelude.{ℕ, List, Option}
use Rattle.ct_base.specs.Settled.{HasFewPairs}
use Rattle.ct_base.specs.Spares.{SparesFiles, SparesReplay}
use Rattle.ct_pm.specs.Images.{History}
use Rattle.ct_pm.specs.Device.{LeavesOnly, StoresOver}

-- the image has Q, its record is lawful with at most so many long pairs, and none of them names a word of a live file's page
pub record Crash (Q : List ℕ → Type 0) (most : ℕ) (image : List ℕ) : Type 0 where
  pub has : Q image
  pub few : HasFewPairs most image
  pub spares : SparesReplay image

-- a crash at any moment from one history to the next leaves such an image, no step stores on a page of a live file, and the
-- words as they read are such an image too
pub record Phase (Q : List ℕ → Type 0) (most : ℕ) (from to : Option History) (now : List ℕ) : Type 0 where
  pub moments : LeavesOnly from to (Crash Q most)
  pub stores : StoresOver SparesFiles from to
  pub reads : Crash Q most now
