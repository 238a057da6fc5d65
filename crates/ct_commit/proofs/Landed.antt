-- Images that land on objects.
use Rattle.std.proofs.Common.{◌≡◌, ℕ, ◌/◌, List, ap, ◌∙◌, subst, sym, inl, inr}
use Rattle.ct_base.specs.Free.{IsFilePage}
use Rattle.ct_base.specs.Objects.{Object, objects}
use Rattle.ct_base.specs.Settled.{IsShut, settled}
use Rattle.ct_base.specs.State.{SameState}
use Rattle.ct_base.specs.View.{view, inode_count}
use Rattle.ct_state.proofs.Carry.{files-same, sound-same}
use Rattle.ct_state.proofs.Shut.{shut_alike, shut_whole}
use Rattle.ct_state.proofs.States.{head_of, head_rules}
use Rattle.ct_tree.specs.Lands.{Lands, files}
use Rattle.ct_tree.specs.Stands.{Stands}
use Rattle.ct_tree.specs.Tree.{Tree}
use Rattle.ct_commit.specs.Landing.{LandsAs, LandsOnEither}
use Rattle.ct_commit.specs.Made.{Settles, Spares}
use Rattle.ct_commit.specs.Rest.{IsAtRest}
use Rattle.ct_commit.proofs.States.{closed_of, whole_of}

-- a tree for which the objects stand
pub lands_on : {fs : ℕ → Object} {image : List ℕ} {t : Tree} → Stands fs 1 t → LandsAs fs image → Lands image t
lands_on {t = t} s lands = record { head = lands.head; sound = lands.sound; stands = subst (λ os. Stands os 1 t) (sym lands.objects) s }

-- an image of the same state
pub state_as : {fs : ℕ → Object} {f g : List ℕ} → SameState f g → LandsAs fs f → LandsAs fs g
state_as {f = f} {g = g} s lands = record {
  head = head_of (λ r. (s.head r).0 (head_rules lands.head r));
  sound = λ r. (s.rules r).0 (lands.sound r);
  objects = ap (objects (view (settled g))) s.inodes ∙ ap (λ b. objects b (inode_count (settled f))) s.bytes ∙ lands.objects;
}

-- words at rest, whatever is staged
pub rest_as : {w : List ℕ} → IsAtRest w → LandsAs (files w) w
rest_as rest =
    let whole = whole_of rest in
    record {
      head = rest.head;
      sound = sound-same (shut_alike rest.shut whole) (shut_whole rest.shut whole) rest.sound;
      objects = files-same (shut_alike rest.shut whole);
    }

pub same_as : {w image : List ℕ} → IsAtRest w → SameState w image → LandsAs (files w) image
same_as rest same = state_as same (rest_as rest)

-- a record that leaves words at rest with other objects
pub settles_as : {was : List ℕ} {R : List ℕ → Type 0} {gs : ℕ → Object} → IsAtRest was → ((new : List ℕ) → R new → IsShut new → IsAtRest new) → ((new : List ℕ) → R new → files new ≡ gs) → Settles was R (LandsOnEither (files was) gs)
settles_as {gs = gs} rest after objects = record {
  before = λ image same. inl (same_as rest same);
  after = λ new makes shut image same. inr (subst (λ fs. LandsAs fs image) (objects new makes) (same_as (after new makes shut) same));
}

-- and brings no page under a file
pub rest_spares : {was : List ℕ} {R : List ℕ → Type 0} {N : ℕ → Type 0} → IsAtRest was → ((new : List ℕ) → R new → IsShut new → IsAtRest new) → ((w : ℕ) → N w → IsFilePage was (w / 512) → ⊥)
    → ((new : List ℕ) → R new → (page : ℕ) → IsFilePage new page → IsFilePage was page) → Spares was R N
rest_spares rest after off pages = record {
  before = closed_of rest;
  after = λ new makes shut. closed_of (after new makes shut);
  off = off;
  off_after = λ new makes shut w named is. off w named (pages new makes (w / 512) is);
}
