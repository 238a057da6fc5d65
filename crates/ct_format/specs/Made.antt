-- What callers see of a file system that was made just now, and of a device that was not mounted.
use Rattle.std.specs.Prelude.{◌≡◌, ◌⊎◌, ℕ, ◌+◌, ◌<◌, List, length}
use Rattle.ct_base.specs.declared.layout.TheConstants.{LEAST_PAGES, MOST_PAGES}
use Rattle.ct_base.specs.Format.{IsFormatted}
use Rattle.ct_base.specs.Free.{AreFree}
use Rattle.ct_base.specs.Rules.{Sound}
use Rattle.ct_base.specs.Walk.{AreTables}
use Rattle.ct_frames.specs.Agrees.{Agrees}
use Rattle.ct_frames.specs.Free.{FreePages}
use Rattle.ct_tree.specs.Lands.{Lands}
use Rattle.ct_tree.specs.Tree.{Dir, none}
use Rattle.ct_call.specs.Calls.{StandsFor}
use Rattle.ct_format.specs.declared.formatting.TheConstants.{FREE_PAGE}
pub use Rattle.ct_call.specs.NotMounted.{image_dev, why_not}

-- what holds of a file system that was made just now
pub record IsNew (img : List ℕ) (frames : FreePages) (pages n : ℕ) : Type 0 where
  pub formatted : IsFormatted img pages n
  pub lands : Lands img (Dir none)
  pub stands : StandsFor img (Dir none)
  pub sound : Sound img
  pub tables : AreTables img
  pub agrees : Agrees img frames
  pub free : AreFree img frames.free
  -- the pages before that one are taken
  pub many : length frames.free + FREE_PAGE ≡ pages

-- the device has too few pages, or too many
abbrev pub IsMissized : ℕ → Type 0
IsMissized pages = (pages < LEAST_PAGES) ⊎ (MOST_PAGES < pages)
