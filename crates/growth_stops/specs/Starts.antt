-- Words from which a device may start.
use Rattle.std.specs.Prelude.{◌≡◌, ◌*◌, ◌↔◌, ℕ, List, Contains, length, slice_index}
use Rattle.ct_base.specs.declared.layout.TheConstants.{PAGE_WORDS}
use Rattle.ct_frames.specs.Agrees.{Agrees}
use Rattle.ct_frames.specs.Free.{FreePages}
use Rattle.ct_commit.specs.Rest.{IsAtRest, IsUnstaged}
use Rattle.growth_stops.specs.declared.volume.TheConstants.{PAGES}

-- each number that is in one of the lists is in the other
abbrev pub AreAlike : List ℕ → List ℕ → Type 0
AreAlike one other = (q : ℕ) → Contains one q ↔ Contains other q

-- words, and which of their pages are free
pub record StartWords : Type 0 where
  pub words : List ℕ
  pub frames : FreePages

-- the words of so many pages at rest, of which these are free
pub record IsStart (words : List ℕ) (frames : FreePages) : Type 0 where
  pub rest : IsAtRest words
  pub unstaged : IsUnstaged words
  pub agrees : Agrees words frames
  pub size : length words ≡ PAGE_WORDS * PAGES
  pub pages : slice_index words 2 ≡ PAGES
