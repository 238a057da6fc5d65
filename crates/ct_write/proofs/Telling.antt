-- What a crash may leave while a file is written, as the function has it.
use Rattle.std.proofs.Common.{◌≡◌, ◌⊎◌, ℕ, ◌+◌, List, subst}
use Rattle.std.specs.Prelude.{max, slice_set, Option}
use Rattle.ct_base.specs.declared.inode.Inode.{Inode}
use Rattle.ct_base.specs.Inode.{inode}
use Rattle.ct_base.specs.Plan.{touched}
use Rattle.ct_base.specs.Rules.{Sound}
use Rattle.ct_base.specs.View.{view}
use Rattle.ct_base.specs.Settled.{IsShut}
use Rattle.ct_base.specs.State.{SameState}
use Rattle.ct_grow.specs.Grown.{IsReady}
use Rattle.ct_pm.specs.Images.{History}
use Rattle.ct_pm.specs.Device.{LeavesOnly, MakesOnly}
use Rattle.ct_pm.specs.Phase.{Phase}
use Rattle.ct_stage.specs.declared.edit.Given.{Given}
use Rattle.ct_write.specs.Prepared.{Prepared}
use Rattle.ct_write.specs.Recorded.{IsBare, Recorded}
use Rattle.ct_commit.specs.Closed.{IsStateOr}
use Rattle.ct_write.specs.Written.{IsBeforeOrAfter, IsEdited, IsWritten, edit_of, side_page, stage_page}
use Rattle.ct_write.proofs.Changing.{Changing, changed_sound}
use Rattle.ct_write.proofs.Done.{Calls, IsSize, changing, written}
use Rattle.ct_write.proofs.Ending.{empties, end_ready, end_written}
use Rattle.ct_commit.specs.Made.{Spares}
use Rattle.ct_commit.proofs.Emptying.{empty_whole}
use Rattle.ct_write.proofs.Moving.{Staged, calls_with, turns_with}
use Rattle.ct_write.proofs.Turning.{bare_spares, empty_phase, record_phase}
use Rattle.ct_write.proofs.Opening.{Opened, at_file, from_file, recorded_at, staged_by, write_total}

module _ {w0 w1 : List ℕ} {i off len : ℕ} {given : Given} {file : Inode} {a b n : ℕ} {start mid : Option History} (o : Opened w0 i off len given file a b n) (prepared : Prepared w0 w1 a b n (edit_of file off len given)) (before : Phase (SameState w0) 0 start mid w1)
    {size : ℕ} (sized : IsSize w0 i off len given size) where
  staged : Staged w0 w1 i off len given size
  staged = staged_by o sized prepared before.reads.has

  abbrev Then : List ℕ → Type 0
  Then after = IsEdited w0 after i off len given size

  then : (after : List ℕ) → Recorded w1 after i (side_page (inode (view w0) i) off) (stage_page (inode (view w0) i) off) (touched off len) size → IsEdited w0 after i off len given size
  then after r = written (calls_with staged r)

  -- no word that the record may name lies on a page of a live file
  pub told_spares : Spares w1 (λ after. Recorded w1 after i a b n size) (IsBare w1)
  told_spares = from_file o (λ x y z. Spares w1 (λ after. Recorded w1 after i x y z size) (IsBare w1)) (bare_spares (turns_with staged))

  -- up to the end of the record
  pub record_told : {now : List ℕ} {told : Option History} → Phase (IsStateOr w1 (λ after. Recorded w1 after i a b n size)) 5111 mid told now → Phase (IsStateOr w0 (λ after. IsEdited w0 after i off len given size)) 5111 start told now
  record_told {now} {told} phase =
      record_phase (turns_with staged) Then then before (at_file o (λ x y z. Phase (IsStateOr w1 (λ after. Recorded w1 after i x y z size)) 5111 mid told now) phase)

  module _ {w2 : List ℕ} (records : Recorded w1 w2 i a b n size) (shut : IsShut w2) where
    calls : Calls w0 w1 w2 i off len given size
    calls = calls_with staged (recorded_at o records)

    -- and while the slot is emptied
    pub end_told : {now : List ℕ} {then told : Option History} → Phase (IsStateOr w0 (λ after. IsEdited w0 after i off len given size)) 5111 start then w2 → LeavesOnly then told (λ image. (image ≡ w2) ⊎ (image ≡ slice_set w2 16898 0)) → (now ≡ w2) ⊎ (now ≡ slice_set w2 16898 0)
        → MakesOnly (λ at put. (at ≡ 16898) × (put ≡ 0)) then told → Phase (IsStateOr w0 (λ after. IsEdited w0 after i off len given size)) 5111 start told now
    end_told phase images reads made = empty_phase (turns_with staged) Then then (recorded_at o records) shut phase images reads made

    module _ {w3 : List ℕ} (is : w3 ≡ slice_set w2 16898 0) where
      pub done_written : IsEdited w0 w3 i off len given size
      done_written = end_written sized calls shut is

      pub done_ready : IsReady w3
      done_ready = end_ready sized calls shut is

      pub done_changing : Changing w0 w3 i
      done_changing = changing o.can sized done_written

      pub done_sound : Sound w0 → Sound w3
      done_sound = changed_sound done_changing (empty_whole (empties sized calls shut is)).tables

-- a write, by its size
module _ {w0 : List ℕ} {i off len : ℕ} {given : Given} {file : Inode} {a b n : ℕ} (o : Opened w0 i off len given file a b n) {size : ℕ} (is : size ≡ max file.size (off + len)) where
  pub write_phase : {start told : Option History} {now : List ℕ} → Phase (IsStateOr w0 (λ after. IsEdited w0 after i off len given size)) 5111 start told now → Phase (IsBeforeOrAfter w0 i off len given) 5111 start told now
  write_phase {start} {told} {now} phase = subst (λ (k : ℕ). Phase (IsStateOr w0 (λ after. IsEdited w0 after i off len given k)) 5111 start told now) (write_total o is) phase

  pub write_done : {now : List ℕ} → IsEdited w0 now i off len given size → IsWritten w0 now i off len given
  write_done {now} done = subst (λ (k : ℕ). IsEdited w0 now i off len given k) (write_total o is) done
