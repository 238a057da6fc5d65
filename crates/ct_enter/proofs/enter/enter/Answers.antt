use Rattle.std.proofs.Common.{ℕ, List, ◌∙◌}
use Rattle.std.specs.Prelude.{OnOk}
use Rattle.ct_base.specs.Settled.{IsShut}
use Rattle.ct_record.specs.Record.{Concluded}
use Rattle.ct_record.specs.Seen.{device_behind}
use Rattle.ct_record.proofs.Ended.{ok_both, ok_then}
use Rattle.ct_commit.specs.Made.{Drafted, IsStable}
use Rattle.ct_commit.proofs.Made.{made_done, made_ends, made_of, made_phase, made_stores}
use Rattle.ct_enter.specs.Entry.{IsEntryWord}
use Rattle.ct_enter.proofs.EntryRecord.{IsAsked, Written, entered, entry_settles, entry_spares, written_stable}
use Rattle.ct_enter.proofs.Entered.{has_entry}
use Rattle.ct_enter.proofs.Entering.{Enters, dir_size, live_on, object_is, part_stays}
use Rattle.ct_enter.proofs.Slotted.{has_slot}
use Rattle.ct_enter.proofs.enter.enter.Given.{Over}
use Rattle.ct_enter.proofs.enter.enter.Goals as goal

module _ (g : Over) (c : goal.After-conclude g) where
  asked : IsAsked (g.D.Pm.words c.args.dev) c.args.spot.now.dir c.args.spot.now.inode c.args.spot.now.offset c.args.spot.now.name.now c.args.number c.args.kind
  asked = record { rest = c.requires.rest; spot = c.requires.spot; unused = c.requires.unused; sort = c.requires.sort }

  abbrev R : List ℕ → List ℕ → Type 0
  R was new = Written c.args.spot.now.dir c.args.spot.now.inode c.args.spot.now.offset c.args.spot.now.name.now c.args.number c.args.kind was new

  abbrev N : List ℕ → ℕ → Type 0
  N was word = IsEntryWord was c.args.spot.now.dir c.args.spot.now.inode c.args.spot.now.offset c.args.number word

  stable : IsStable R
  stable = written_stable c.args.spot.now.dir c.args.spot.now.inode c.args.spot.now.offset c.args.spot.now.name.now c.args.number c.args.kind

  drafted : Drafted R N 41 c.draft_entry-written.result c.args.dev c.begin-draft.result c.draft_entry-written.new.draft
  drafted = record {
    is = c.begin-draft.ensures.dev ∙ c.of.ensures;
    drafts = c.draft_entry-written.ensures.drafts;
    makes = ok_both _ _ c.draft_entry-written.result c.draft_entry-written.ensures.writes c.draft_entry-written.ensures.bytes;
    named = c.draft_entry-written.ensures.named;
    few = c.draft_entry-written.ensures.few;
  }

  ends : Concluded (g.D.Pm.words c.args.dev) (g.D.Pm.told c.args.dev) (made_of drafted stable).0 41 (g.D.Pm.words (device_behind c.conclude.result)) (g.D.Pm.told (device_behind c.conclude.result)) c.conclude.result
  ends = made_ends drafted stable c.conclude.ensures.concluded

  -- what follows from the entry that stands
  when : (Q : Type 0) → (Enters (g.D.Pm.words c.args.dev) (g.D.Pm.words (device_behind c.conclude.result)) c.args.spot.now.dir c.args.spot.now.inode c.args.spot.now.offset c.args.spot.now.name.now c.args.number c.args.kind
      → IsShut (g.D.Pm.words (device_behind c.conclude.result)) → Q) → OnOk c.conclude.result Q
  when Q then =
      let now = g.D.Pm.words (device_behind c.conclude.result) in
      ok_then (R (g.D.Pm.words c.args.dev) now × IsShut now) c.conclude.result (λ has. then (entered asked now has.0) has.1)
      (ok_both (R (g.D.Pm.words c.args.dev) now) (IsShut now) c.conclude.result (made_done drafted stable c.conclude.result now c.conclude.ensures.done c.conclude.ensures.words) ends.shut)

pub returns-clause-entry : goal.returns-clause-entry
returns-clause-entry g c = when g c _ (λ e shut. has_entry e shut)

pub returns-clause-slot : goal.returns-clause-slot
returns-clause-slot g c = when g c _ (λ e shut. has_slot e)

pub returns-clause-object : goal.returns-clause-object
returns-clause-object g c = when g c _ (λ e shut. object_is e)

pub returns-clause-size : goal.returns-clause-size
returns-clause-size g c = when g c _ (λ e shut. dir_size e)

pub returns-clause-part : goal.returns-clause-part
returns-clause-part g c = when g c _ (λ e shut. part_stays e)

pub returns-clause-live : goal.returns-clause-live
returns-clause-live g c = when g c _ (λ e shut. live_on e)

pub returns-clause-settled : goal.returns-clause-settled
returns-clause-settled g c = (ends g c).settled

pub returns-clause-made : goal.returns-clause-made
returns-clause-made g c = made_stores (made_of (drafted g c) (stable g c)).1.0 (ends g c)

pub returns-clause-phase : goal.returns-clause-phase
returns-clause-phase g c = made_phase (made_of (drafted g c) (stable g c)).1.0 (entry_spares (asked g c)) (entry_settles (asked g c)) (ends g c)
