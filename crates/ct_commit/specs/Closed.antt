-- What an image may settle to: words with closed gates.
use Rattle.std.specs.Prelude.{◌⊎◌, ℕ, List}
use Rattle.ct_base.specs.Rules.{ArePlaced}
use Rattle.ct_base.specs.Settled.{IsShut}
use Rattle.ct_base.specs.State.{SameState}
use Rattle.ct_base.specs.View.{view, inode_count}
use Rattle.ct_state.specs.Alike.{IsWhole}

-- both gates are closed, the tables are well formed with pages in partitions alone, and live inodes have lawful partitions
pub record IsClosed (words : List ℕ) : Type 0 where
  pub shut : IsShut words
  pub whole : IsWhole words
  pub placed : ArePlaced (view words) (inode_count words)

-- the state to which the image settles is that of closed words of which this holds
pub record HasState (Done : List ℕ → Type 0) (image : List ℕ) : Type 0 where
  pub after : List ℕ
  pub done : Done after
  pub shut : IsShut after
  pub whole : IsWhole after
  pub state : SameState after image

-- it is that of the words, or that of such words
abbrev pub IsStateOr : List ℕ → (List ℕ → Type 0) → List ℕ → Type 0
IsStateOr words Done image = SameState words image ⊎ HasState Done image
