use Rattle.std.proofs.Common.{ℕ, List, ◌∙◌}
use Rattle.ct_record.specs.Record.{Concluded}
use Rattle.ct_record.specs.Seen.{device_behind}
use Rattle.ct_commit.specs.Made.{Drafted, IsStable}
use Rattle.ct_commit.proofs.Made.{made_done, made_ends, made_of, made_phase, state_or}
use Rattle.ct_write.specs.Recorded.{IsBare, Recorded}
use Rattle.ct_write.proofs.Sizing.{recorded_done}
use Rattle.ct_write.proofs.record.write_now.Given.{Over}
use Rattle.ct_write.proofs.record.write_now.Goals as goal

module _ (g : Over) (c : goal.After-conclude g) where
  abbrev R : List ℕ → List ℕ → Type 0
  R was new = Recorded was new c.args.inode c.args.a c.args.b c.args.n c.args.size

  stable : IsStable R
  stable = recorded_done c.args.inode c.args.a c.args.b c.args.n c.args.size

  drafted : Drafted R IsBare 5111 c.draft_write-drafted.result c.args.dev c.begin-draft.result c.draft_write-drafted.new.draft
  drafted = record {
    is = c.begin-draft.ensures.dev ∙ c.of.ensures;
    drafts = c.draft_write-drafted.ensures.drafts;
    makes = c.draft_write-drafted.ensures.recorded;
    named = c.draft_write-drafted.ensures.bare;
    few = c.draft_write-drafted.ensures.few;
  }

  ends : Concluded (g.D.Pm.words c.args.dev) (g.D.Pm.told c.args.dev) (made_of drafted stable).0 5111 (g.D.Pm.words (device_behind c.conclude.result)) (g.D.Pm.told (device_behind c.conclude.result)) c.conclude.result
  ends = made_ends drafted stable c.conclude.ensures.concluded

pub returns-clause-recorded : goal.returns-clause-recorded
returns-clause-recorded g c = made_done (drafted g c) (stable g c) c.conclude.result (g.D.Pm.words (device_behind c.conclude.result)) c.conclude.ensures.done c.conclude.ensures.words

pub returns-clause-shut : goal.returns-clause-shut
returns-clause-shut g c = (ends g c).shut

pub returns-clause-settled : goal.returns-clause-settled
returns-clause-settled g c = (ends g c).settled

pub returns-clause-phase : goal.returns-clause-phase
returns-clause-phase g c = made_phase (made_of (drafted g c) (stable g c)).1.0 c.requires.spares (state_or c.requires.spares) (ends g c)
