-- A form of a rename, carried out.
use Rattle.std.proofs.Common.{◌≡◌, ◌≢◌, ◌⊎◌, ℕ, ◌+◌, ◌/◌, ◌<◌, ◌≤◌, ◌^◌, true, List, None, Option, sym, ap, subst, ◌∙◌, inl, inr, arith}
use Rattle.ct_base.specs.declared.inode.Inode.{Inode}
use Rattle.ct_base.specs.Inode.{IsLive, inode}
use Rattle.ct_base.specs.Objects.{Object, object}
use Rattle.ct_base.specs.Rules.{HasRoom, placed}
use Rattle.ct_base.specs.Path.{is_name}
use Rattle.ct_base.specs.Slots.{IsSlot}
use Rattle.ct_base.specs.View.{view, inode_count}
use Rattle.ct_base.specs.Walk.{word, page_at}
use Rattle.ct_commit.proofs.Landed.{lands_on}
use Rattle.ct_call.proofs.Pairs.{least_pairs}
use Rattle.ct_call.specs.Calls.{StandsFor, after, most_pairs}
use Rattle.ct_commit.specs.Rest.{IsAtRest}
use Rattle.ct_dir.proofs.Held.{room_there, used_there}
use Rattle.ct_dir.specs.Directory.{IsReadable, dir_of}
use Rattle.ct_path.proofs.Sounds.{is_live, readable}
use Rattle.ct_pm.specs.Images.{History}
use Rattle.ct_pm.specs.Phase.{Phase}
use Rattle.ct_pm.proofs.Phases.{phase_weaker}
use Rattle.ct_state.specs.Forest.{OneTree}
use Rattle.ct_state.proofs.Bytes.{objects-in}
use Rattle.ct_state.proofs.Landing.{sound_stands}
use Rattle.ct_tree.specs.Lands.{Lands, files}
use Rattle.ct_tree.specs.Stands.{Stands}
use Rattle.ct_tree.specs.Step.{refusal, rename}
use Rattle.ct_tree.specs.Tree.{Tree}
use Rattle.ct_rename.specs.Forms.{IsForm}
use Rattle.ct_rename.specs.Moves.{CanLeave, CanMove, HasTree, TurnedOrNot}
use Rattle.ct_rename.specs.Renamed.{renamed}
use Rattle.ct_rename.specs.declared.find.Form.{Form}
use Rattle.ct_rename.proofs.Composing.{form_tree}

module _ {w : List ℕ} (rest : IsAtRest w) (d : ℕ) {o : ℕ} (slot : IsSlot (files w d) o) where
  pub slot_live : IsLive (view w) (inode_count w) d
  slot_live = is_live w rest.sound rest.head.inodes.1 d (λ z. omega (arith, z, slot.dir))

  slot_object : files w d ≡ object (view w) d
  slot_object = objects-in (view w) (inode_count w) d slot_live.number

  slot_kind : (inode (view w) d).kind ≡ 2
  slot_kind = ap (λ (f : Object). f.kind) (sym slot_object) ∙ slot.dir

  slot_ends : o + 256 ≤ (inode (view w) d).size
  slot_ends = omega (arith, slot.below, slot.aligned, ap (λ (f : Object). f.size) slot_object, (rest.sound placed d slot_live).slots slot_kind)

  slot_room : HasRoom (inode (view w) d)
  slot_room = room_there (rest.sound placed d slot_live) (omega (arith, slot_ends))

  can_here : {i : ℕ} {name : List ℕ} → CanLeave w d o i → is_name name ≡ true → CanMove w d o d o i name
  can_here leave lawful = record {
    rest = rest;
    slot = slot;
    child = leave.child;
    owns = record { live = slot_live; level = slot_room.part.level };
    kind = slot_kind;
    aligned = slot.aligned;
    low = omega (arith, slot_ends);
    fits = omega (arith, slot_ends, slot_room.size);
    few = leave.few;
    some = leave.some;
    lawful = lawful;
  }

  pub slot_readable : (f : Inode) → f ≡ inode (view w) d → IsReadable w f
  slot_readable f is = readable w rest.sound rest.head.inodes.1 d (λ z. omega (arith, z, slot.dir)) f is rest.tables (ap (λ (g : Inode). g.kind) is ∙ slot_kind)

  pub dir_is : (f : Inode) → f ≡ inode (view w) d → dir_of w f ≡ files w d
  dir_is f is = ap (dir_of w) is ∙ sym slot_object

  pub slot_there : ((x : ℕ) → word w x < 2 ^ 64) → page_at w 4 (((inode (view w) d).base + o) / 4096) ≢ 0
  slot_there fits = used_there w (inode (view w) d) o rest.tables fits (rest.sound placed d slot_live) (subst (λ f. IsSlot f o) slot_object slot)

-- another name in the same directory
pub can_within : {w : List ℕ} {d o k i : ℕ} {name : List ℕ} → IsAtRest w → d ≡ k → CanLeave w d o i → is_name name ≡ true → CanMove w d o k o i name
can_within {w} {d} {o} {k} {i} {name} rest same leave lawful = subst (λ e. CanMove w d o e o i name) same (can_here rest d leave.slot leave lawful)

pub within_there : {w : List ℕ} {d o k i : ℕ} → IsAtRest w → ((x : ℕ) → word w x < 2 ^ 64) → d ≡ k → CanLeave w d o i → page_at w 4 (((inode (view w) k).base + o) / 4096) ≢ 0
within_there {w} {d} {o} rest fits same leave = subst (λ e. page_at w 4 (((inode (view w) e).base + o) / 4096) ≢ 0) same (slot_there rest d leave.slot fits)

pub wider : {fs gs hs : ℕ → Object} {most : ℕ} {now : List ℕ} {from to : Option History} → most ≤ 242 → gs ≡ hs → Phase (TurnedOrNot fs gs) most from to now → Phase (TurnedOrNot fs hs) 242 from to now
wider {fs} {gs} {hs} {most} {now} {from} {to} le same phase = phase_weaker (TurnedOrNot fs hs) (λ image lands. lands) le (subst (λ h. Phase (TurnedOrNot fs h) most from to now) same phase)

-- ---- at the call

module _ {w : List ℕ} (path to : List ℕ) (rest : IsAtRest w) (form : Form) (is : IsForm w path to form) where
  pub has_tree : ((t : Tree) → StandsFor w t → refusal t (rename path to) ≡ None) → HasTree (renamed (files w) form)
  has_tree allowed =
      let s = sound_stands w (omega (arith, rest.head.inodes.0)) rest.sound in
      let st : StandsFor w s.0 = record { tree = s.1; stands = s.2 } in
      record { tree = after s.0 (rename path to); one = form_tree path to rest st (allowed s.0 st) form is }

  module _ {t : Tree} (st : StandsFor w t) (passes : refusal t (rename path to) ≡ None) where
    one : OneTree (renamed (files w) form) (after t (rename path to))
    one = form_tree path to rest st passes form is

    pub after_stands : {new : List ℕ} → files new ≡ renamed (files w) form → StandsFor new (after t (rename path to))
    after_stands same = record { tree = one.tree; stands = subst (λ fs. Stands fs 1 (after t (rename path to))) (sym same) one.stands }

    pub call_phase : {now : List ℕ} {from till : Option History} → Phase (TurnedOrNot (files w) (renamed (files w) form)) 242 from till now
        → Phase (λ image. Lands image t ⊎ Lands image (after t (rename path to))) (most_pairs (rename path to)) from till now
    call_phase phase = phase_weaker (λ image. Lands image t ⊎ Lands image (after t (rename path to))) (λ image lands. elim lands [
      | inl before ↦ inl (lands_on st.stands before)
      | inr done ↦ inr (lands_on one.stands done)
    ]) (omega (arith, least_pairs (rename path to))) phase
