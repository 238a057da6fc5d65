-- What a rename makes of sound words.
use Rattle.std.proofs.Common.{◌≡◌, ◌≢◌, ℕ, ◌/◌, ◌<◌, List, sym, ap, ◌∙◌, subst}
use Rattle.std.specs.Prelude.{slice_index}
use Rattle.ct_pm.specs.Device.{SameOff}
use Rattle.ct_record.specs.Record.{InRecord}
use Rattle.ct_state.specs.Forest.{OneTree}
use Rattle.ct_tree.specs.Lands.{files}
use Rattle.ct_remove.specs.Asked.{IsAsked}
use Rattle.ct_remove.proofs.Removing.{files_are as removed_are}
use Rattle.ct_base.specs.Free.{IsFilePage}
use Rattle.ct_base.specs.Settled.{IsShut}
use Rattle.ct_commit.specs.Made.{Settles, Spares}
use Rattle.ct_commit.specs.Rest.{IsAtRest}
use Rattle.ct_commit.proofs.Landed.{rest_spares, settles_as}
use Rattle.ct_rename.specs.Moves.{CanMove, HasTree, Moved, MovesEntry, Replaces, TurnedOrNot, moved, replaced}
use Rattle.ct_rename.proofs.Moving.{files_are, moved_settled}
use Rattle.ct_rename.proofs.Recording.{moves_beside}
use Rattle.ct_rename.proofs.Replacing.{can_still}
use Rattle.ct_rename.proofs.Spared.{moved_page, replaced_page}

-- the words are those of a name
abbrev pub AreBytes : List ℕ → Type 0
AreBytes name = (j : ℕ) → slice_index name j < 256

-- what a draft of a move does
pub record MovesBy (d o k s i : ℕ) (name : List ℕ) (old new : List ℕ) : Type 0 where
  pub moves : MovesEntry old new d o k s i name
  pub small : AreBytes name

pub moves_by_beside : {d o k s i : ℕ} {name : List ℕ} (old mid new : List ℕ) → MovesBy d o k s i name old mid → SameOff InRecord new mid → MovesBy d o k s i name old new
moves_by_beside old mid new m same = record { moves = moves_beside m.moves same; small = m.small }

pub moved_by : {w new : List ℕ} {d o k s i : ℕ} {name : List ℕ} → CanMove w d o k s i name → MovesBy d o k s i name w new → Moved w new d o k s i name
moved_by can m = record { can = can; moves = m.moves; small = m.small }

module _ {w : List ℕ} {d o k s i : ℕ} {name : List ℕ} (can : CanMove w d o k s i name) (tree : HasTree (moved (files w) d o k s i name)) where
  moved_rests : (new : List ℕ) → MovesBy d o k s i name w new → IsShut new → IsAtRest new
  moved_rests new m shut = moved_settled (moved_by can m) tree.one shut

  pub moving_spares : {N : ℕ → Type 0} → ((word : ℕ) → N word → IsFilePage w (word / 512) → ⊥) → Spares w (MovesBy d o k s i name w) N
  moving_spares off = rest_spares can.rest moved_rests off (λ new m page is. moved_page (moved_by can m) is)

  pub moving_settles : Settles w (MovesBy d o k s i name w) (TurnedOrNot (files w) (moved (files w) d o k s i name))
  moving_settles = settles_as can.rest moved_rests (λ new m. files_are (moved_by can m))

-- and one of a move that replaces
pub record ReplacesBy (d o k s i j : ℕ) (name : List ℕ) (old new : List ℕ) : Type 0 where
  pub replaces : Replaces old new d o k s i j name
  pub small : AreBytes name

pub replaces_by_beside : {d o k s i j : ℕ} {name : List ℕ} (old mid new : List ℕ) → ReplacesBy d o k s i j name old mid → SameOff InRecord new mid → ReplacesBy d o k s i j name old new
replaces_by_beside old mid new m same = record {
  replaces = record { middle = m.replaces.middle; removes = m.replaces.removes; shut = m.replaces.shut; moves = moves_beside m.replaces.moves same };
  small = m.small;
}

module _ {w : List ℕ} {d o k s i j : ℕ} {name : List ℕ} (can : CanMove w d o k s i name) (asked : IsAsked w k s j) (away : d ≡ k → o ≢ s) where
  pub moved_last : {new : List ℕ} (r : Replaces w new d o k s i j name) → AreBytes name → Moved r.middle new d o k s i name
  moved_last r small = record { can = can_still can asked r.removes away r.shut; moves = r.moves; small = small }

  pub replaced_are : {new : List ℕ} → Replaces w new d o k s i j name → AreBytes name → files new ≡ replaced (files w) d o k s i j name
  replaced_are r small = files_are (moved_last r small) ∙ ap (λ fs. moved fs d o k s i name) (removed_are asked r.removes)

  pub replaced_tree : HasTree (replaced (files w) d o k s i j name) → {new : List ℕ} (r : Replaces w new d o k s i j name) → HasTree (moved (files r.middle) d o k s i name)
  replaced_tree tree r = record { tree = tree.tree; one = subst (λ fs. OneTree (moved fs d o k s i name) tree.tree) (sym (removed_are asked r.removes)) tree.one }

  module _ (tree : HasTree (replaced (files w) d o k s i j name)) where
    pub replaced_rest : (new : List ℕ) → ReplacesBy d o k s i j name w new → IsShut new → IsAtRest new
    replaced_rest new m shut = moved_settled (moved_last m.replaces m.small) (replaced_tree tree m.replaces).one shut

    pub replacing_spares : {N : ℕ → Type 0} → ((word : ℕ) → N word → IsFilePage w (word / 512) → ⊥) → Spares w (ReplacesBy d o k s i j name w) N
    replacing_spares off = rest_spares can.rest replaced_rest off (λ new m page is. replaced_page can asked away m.small m.replaces is)

    pub replacing_settles : Settles w (ReplacesBy d o k s i j name w) (TurnedOrNot (files w) (replaced (files w) d o k s i j name))
    replacing_settles = settles_as can.rest replaced_rest (λ new m. replaced_are m.replaces m.small)
