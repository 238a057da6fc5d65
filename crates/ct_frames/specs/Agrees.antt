-- The free pages of an image.
use Rattle.std.specs.Prelude.{◌≡◌, ℕ, ◌<◌, ◌≤◌, ◌⊎◌, List, Contains}
use Rattle.ct_base.specs.declared.layout.TheConstants.{FIRST_PAGE}
use Rattle.ct_base.specs.Walk.{page_count, IsFresh, IsReached}
use Rattle.ct_frames.specs.Free.{FreePages}

-- The free pages are those that may be handed out, up to the page count less 1, that no cell has. Each other page is shown
-- with a cell that has it, since no cell can be got from "not free" alone.
pub record Agrees (img : List ℕ) (frames : FreePages) : Type 0 where
  pub pages : frames.pages ≡ page_count img
  pub free : (q : ℕ) → Contains frames.free q → IsFresh img q
  pub all : (q : ℕ) → FIRST_PAGE ≤ q → q < page_count img → Contains frames.free q ⊎ IsReached img q
