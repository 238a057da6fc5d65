-- What holds of a mounted file system between its calls.
use Rattle.std.specs.Prelude.{◌≡◌, ◌≢◌, ℕ, ◌+◌, ◌<◌, ◌≤◌, List, length, Option}
use Rattle.ct_base.specs.Head.{HasHead}
use Rattle.ct_base.specs.Rules.{Sound}
use Rattle.ct_base.specs.Settled.{IsShut}
use Rattle.ct_base.specs.Walk.{word, page_at, AreTables}
use Rattle.ct_base.specs.declared.layout.TheConstants.{PAGE_WORDS, ROOT_WORD, STAGING_SLOT, STAGING_SLOTS}
use Rattle.ct_frames.specs.Agrees.{Agrees}
use Rattle.ct_frames.specs.Free.{FreePages}
use Rattle.ct_pm.specs.Device.{NothingPending}
use Rattle.ct_pm.specs.Images.{History}
use Rattle.ct_tree.specs.Lands.{files}
use Rattle.ct_tree.specs.Ordered.{IsTree}
use Rattle.ct_tree.specs.Stands.{Stands}
use Rattle.ct_tree.specs.Tree.{Tree}

-- none of the mount rules fails and both gates are closed; what is staged is not asked
pub record IsAtRest (words : List ℕ) : Type 0 where
  pub head : HasHead words
  pub sound : Sound words
  pub shut : IsShut words
  pub tables : AreTables words

-- nothing is staged
abbrev pub IsUnstaged : List ℕ → Type 0
IsUnstaged words = (k : ℕ) → k < STAGING_SLOTS → word words (ROOT_WORD + STAGING_SLOT + k) ≡ 0

-- nothing is staged but in one root slot
abbrev pub IsUnstagedBut : ℕ → List ℕ → Type 0
IsUnstagedBut slot words = (k : ℕ) → k < STAGING_SLOTS → STAGING_SLOT + k ≢ slot → word words (ROOT_WORD + STAGING_SLOT + k) ≡ 0

-- the words are at rest, nothing is staged, nothing is pending, and these pages are free
pub record IsMounted (words : List ℕ) (told : Option History) (frames : FreePages) : Type 0 where
  pub rest : IsAtRest words
  pub unstaged : IsUnstaged words
  pub settled : NothingPending told
  pub agrees : Agrees words frames

-- the words stand for the tree
pub record StandsFor (words : List ℕ) (t : Tree) : Type 0 where
  pub tree : IsTree t
  pub stands : Stands (files words) 1 t

-- each cell, page 0 and the length stay
pub record KeepsTables (old new : List ℕ) : Type 0 where
  pub cells : (d x : ℕ) → d ≤ 4 → page_at new d x ≡ page_at old d x
  pub head : (w : ℕ) → w < PAGE_WORDS → word new w ≡ word old w
  pub size : length new ≡ length old
