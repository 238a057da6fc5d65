-- A record changed the bytes of a file: the words are at rest again, and land on the objects with the change.
use Rattle.std.proofs.Common.{◌≡◌, ◌≢◌, ℕ, ◌+◌, ◌<◌, ◌≤◌, List, Option, ap, subst, ◌∙◌, inl, inr, arith}
use Rattle.std.specs.Prelude.{length}
use Rattle.ct_base.specs.Objects.{Object, objects}
use Rattle.ct_base.specs.Rules.{Sound}
use Rattle.ct_base.specs.Settled.{HasPages, IsShut}
use Rattle.ct_base.specs.View.{view, inode_count}
use Rattle.ct_base.specs.Walk.{AreTables, page_at, word}
use Rattle.ct_grow.specs.Grown.{IsReady}
use Rattle.ct_pm.specs.Images.{History}
use Rattle.ct_pm.specs.Phase.{Phase}
use Rattle.ct_pm.proofs.Phases.{phase_then, phase_weaker}
use Rattle.ct_state.proofs.Write.{written as object_written}
use Rattle.ct_tree.specs.Lands.{files}
use Rattle.ct_write.specs.declared.data.Data.{Data}
use Rattle.ct_commit.specs.Closed.{IsStateOr}
use Rattle.ct_write.specs.Written.{CanWrite, IsBeforeOrAfter, IsWritten, data_bytes, data_given, data_len}
use Rattle.ct_write.proofs.Changing.{Changing, changed_sound}
use Rattle.ct_write.proofs.Files.{changed as changing, data_at, data_length, file_written}
use Rattle.ct_commit.proofs.Landed.{same_as}
use Rattle.ct_commit.specs.Landing.{LandsAs}
use Rattle.ct_commit.specs.Rest.{IsAtRest, IsMounted, IsUnstaged}
use Rattle.ct_commit.proofs.Resting.{slots_stay_but, unstaged_all}
use Rattle.ct_commit.proofs.States.{head_over}
use Rattle.ct_frames.specs.Agrees.{Agrees}
use Rattle.ct_frames.specs.Free.{FreePages}
use Rattle.ct_pm.specs.Device.{NothingPending}
use Rattle.ct_edit.specs.Changed.{Changes, ChangesOrNot}
use Rattle.ct_edit.specs.Edits.{written_from}

-- The file of words has changed, and the superblock, the length and the other staging slots stay.
pub record Remade (old new : List ℕ) (i : ℕ) (change : List ℕ → List ℕ) : Type 0 where
  pub changes : Changes (files old) (files new) i change
  pub sound : AreTables new → Sound old → Sound new
  pub inodes : inode_count new ≡ inode_count old
  pub roots : (k : ℕ) → 3 ≤ k → k < 10 → page_at new 1 k ≡ page_at old 1 k
  pub head : (w : ℕ) → w < 512 → word new w ≡ word old w
  pub size : length new ≡ length old

module _ {old : List ℕ} {i : ℕ} {change : List ℕ → List ℕ} (rest : IsAtRest old) where
  module _ {new : List ℕ} (m : Remade old new i change) where
    rest_now : AreTables new → IsShut new → IsAtRest new
    rest_now tables shut = record { head = head_over rest.head m.head m.size shut; sound = m.sound tables rest.sound; shut = shut; tables = tables }

    -- and the staging slots are empty again
    pub mounted_now : {told : Option History} {frames : FreePages} → IsUnstaged old → IsReady new → NothingPending told → Agrees new frames → IsMounted new told frames
    mounted_now none ready settled agrees = record {
      rest = rest_now ready.tables ready.shut;
      unstaged = unstaged_all new 2 ready.unstaged (slots_stay_but old new 2 ready.tables (λ k lt other. m.roots (2 + k) (omega (arith, other)) (omega (arith, lt))) none);
      settled = settled;
      agrees = agrees;
    }

  module _ (Done : List ℕ → Type 0) (make : (after : List ℕ) → Done after → Remade old after i change) where
    -- an image of the record lands on the objects with the change
    pub landing : (image : List ℕ) → IsStateOr old Done image → ChangesOrNot (files old) i change image
    landing image (inl same) = inl (same_as rest same)
    landing image (inr has) =
        let m = make has.after has.done in
        inr (record { after = files has.after; lands = same_as (rest_now m has.whole.tables has.shut) has.state; changes = m.changes })

    -- growth, and the record then
    pub edit_phase : {fs : ℕ → Object} {from then to : Option History} {now : List ℕ} → files old ≡ fs → Phase (LandsAs fs) 150 from then old → Phase (IsStateOr old Done) 5111 then to now → Phase (ChangesOrNot fs i change) 5111 from to now
    edit_phase {fs} {then = then} {to = to} {now = now} same first second =
        let later : Phase (ChangesOrNot (files old) i change) 5111 then to now = phase_weaker (ChangesOrNot (files old) i change) landing (omega arith) second in
        phase_then (phase_weaker (ChangesOrNot fs i change) (λ image lands. inl lands) (omega arith) first) (subst (λ (gs : ℕ → Object). Phase (ChangesOrNot gs i change) 5111 then to now) same later)

-- growth alone
pub still_phase : {fs : ℕ → Object} {from to : Option History} {now : List ℕ} (i : ℕ) (change : List ℕ → List ℕ) → Phase (LandsAs fs) 150 from to now → Phase (ChangesOrNot fs i change) 5111 from to now
still_phase {fs} i change phase = phase_weaker (ChangesOrNot fs i change) (λ image lands. inl lands) (omega arith) phase

-- what lands has its pages
pub changed_pages : {fs : ℕ → Object} {i : ℕ} {change : List ℕ → List ℕ} (image : List ℕ) → ChangesOrNot fs i change image → HasPages image
changed_pages image (inl lands) = let c = lands.head.count in (omega (arith, c.0), c.1)
changed_pages image (inr more) = let c = more.lands.head.count in (omega (arith, c.0), c.1)

-- ---- the records

-- each other object stays where one file changes in its partition
pub others_stay : {old new : List ℕ} {i : ℕ} → Changing old new i → (j : ℕ) → j ≢ i → files new j ≡ files old j
others_stay {old} {new} c j other = ap (λ (fs : ℕ → Object). fs j) (ap (objects (view new)) c.inodes) ∙ (object_written c.writes).others j other

pub remade_written : {old new : List ℕ} {i off : ℕ} (what : Data) → CanWrite old i off (data_len what) → IsWritten old new i off (data_len what) (data_given what) → Remade old new i (written_from off what)
remade_written what can w = record {
  changes = record { file = λ was is. file_written can w was (data_bytes what) is (data_length what) (data_at what); others = others_stay (changing can w) };
  sound = changed_sound (changing can w);
  inodes = w.inodes;
  roots = w.roots;
  head = w.head;
  size = w.length;
}

-- growth, and a write then
pub write_phase : {old : List ℕ} {i off : ℕ} (what : Data) {fs : ℕ → Object} {from then to : Option History} {now : List ℕ} → IsAtRest old → CanWrite old i off (data_len what) → files old ≡ fs → Phase (LandsAs fs) 150 from then old
    → Phase (IsBeforeOrAfter old i off (data_len what) (data_given what)) 5111 then to now → Phase (ChangesOrNot fs i (written_from off what)) 5111 from to now
write_phase {old} {i} {off} what rest can = edit_phase rest (λ after. IsWritten old after i off (data_len what) (data_given what)) (λ after is. remade_written what can is)
