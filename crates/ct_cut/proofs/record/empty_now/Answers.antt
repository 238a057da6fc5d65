use Rattle.std.proofs.Common.{ℕ, List, ◌∙◌}
use Rattle.ct_record.specs.Record.{Concluded}
use Rattle.ct_record.specs.Seen.{device_behind}
use Rattle.ct_commit.specs.Made.{Drafted, IsStable}
use Rattle.ct_commit.proofs.Made.{made_done, made_ends, made_of, made_phase, state_or}
use Rattle.ct_cut.specs.Emptied.{Emptied}
use Rattle.ct_cut.proofs.Emptying.{emptied_done}
use Rattle.ct_write.specs.Recorded.{IsBare}
use Rattle.ct_cut.proofs.record.empty_now.Given.{Over}
use Rattle.ct_cut.proofs.record.empty_now.Goals as goal

module _ (g : Over) (c : goal.After-conclude g) where
  abbrev R : List ℕ → List ℕ → Type 0
  R was new = Emptied was new c.args.inode

  stable : IsStable R
  stable = emptied_done c.args.inode

  drafted : Drafted R IsBare 5111 c.draft_empty-drafted.result c.args.dev c.begin-draft.result c.draft_empty-drafted.new.draft
  drafted = record {
    is = c.begin-draft.ensures.dev ∙ c.of.ensures;
    drafts = c.draft_empty-drafted.ensures.drafts;
    makes = c.draft_empty-drafted.ensures.emptied;
    named = c.draft_empty-drafted.ensures.bare;
    few = c.draft_empty-drafted.ensures.few;
  }

  ends : Concluded (g.D.Pm.words c.args.dev) (g.D.Pm.told c.args.dev) (made_of drafted stable).0 5111 (g.D.Pm.words (device_behind c.conclude.result)) (g.D.Pm.told (device_behind c.conclude.result)) c.conclude.result
  ends = made_ends drafted stable c.conclude.ensures.concluded

pub returns-clause-emptied : goal.returns-clause-emptied
returns-clause-emptied g c = made_done (drafted g c) (stable g c) c.conclude.result (g.D.Pm.words (device_behind c.conclude.result)) c.conclude.ensures.done c.conclude.ensures.words

pub returns-clause-shut : goal.returns-clause-shut
returns-clause-shut g c = (ends g c).shut

pub returns-clause-settled : goal.returns-clause-settled
returns-clause-settled g c = (ends g c).settled

pub returns-clause-phase : goal.returns-clause-phase
returns-clause-phase g c = made_phase (made_of (drafted g c) (stable g c)).1.0 c.requires.spares (state_or c.requires.spares) (ends g c)
