use Rattle.std.proofs.Common.{◌≡◌, ℕ, List, ap, sym, subst, ◌∙◌, arith}
use Rattle.std.specs.Prelude.{OnOk}
use Rattle.ct_base.specs.declared.inode.Inode.{Inode}
use Rattle.ct_base.specs.Inode.{inode}
use Rattle.ct_base.specs.Settled.{Named}
use Rattle.ct_base.specs.View.{view}
use Rattle.ct_record.specs.Record.{Concluded}
use Rattle.ct_record.specs.Seen.{device_behind, pairs_of, words_under}
use Rattle.ct_commit.specs.Made.{Drafted}
use Rattle.ct_commit.proofs.Made.{made_done, made_ends, made_of, made_phase}
use Rattle.ct_remove.specs.Erased.{IsGone, Removes}
use Rattle.ct_remove.proofs.Asked.{dir_live, few}
use Rattle.ct_remove.proofs.Recording.{Names, removal_settles, removal_spares, removes_stable}
use Rattle.ct_remove.proofs.record.remove_now.Given.{Over}
use Rattle.ct_remove.proofs.record.remove_now.Goals as goal

pub get-dir-requires-clause-from : goal.get-dir-requires-clause-from
get-dir-requires-clause-from g c = (dir_live c.requires.asked).number.from

pub get-dir-requires-clause-to : goal.get-dir-requires-clause-to
get-dir-requires-clause-to g c = omega (arith, (dir_live c.requires.asked).number.to, few c.requires.asked)

module _ (g : Over) (c : goal.After-conclude g) where
  abbrev R : List ℕ → List ℕ → Type 0
  R was new = Removes was new c.args.entry.dir c.args.entry.offset c.args.entry.number

  base_is : c.get-dir.result.base ≡ (inode (view (words_under c.begin-draft.result)) c.args.entry.dir).base
  base_is = ap (λ (f : Inode). f.base) c.get-dir.ensures ∙ ap (λ d. (inode (view (g.D.Pm.words d)) c.args.entry.dir).base) (sym (c.begin-draft.ensures.dev ∙ c.of.ensures))

  drafted : Drafted R (Names c.args.entry.dir c.args.entry.offset c.args.entry.number) 178 c.draft_removal-drafted.result c.args.dev c.begin-draft.result c.draft_removal-drafted.new.draft
  drafted = record {
    is = c.begin-draft.ensures.dev ∙ c.of.ensures;
    drafts = c.draft_removal-drafted.ensures.drafts;
    makes = c.draft_removal-drafted.ensures.removes;
    named = subst (λ b. OnOk c.draft_removal-drafted.result ((w : ℕ) → Named (pairs_of c.draft_removal-drafted.new.draft) w → IsGone (words_under c.begin-draft.result) b c.args.entry.offset c.args.entry.number w)) base_is c.draft_removal-drafted.ensures.named;
    few = c.draft_removal-drafted.ensures.few;
  }

  ends : Concluded (g.D.Pm.words c.args.dev) (g.D.Pm.told c.args.dev) (made_of drafted (removes_stable c.args.entry.dir c.args.entry.offset c.args.entry.number)).0 178 (g.D.Pm.words (device_behind c.conclude.result)) (g.D.Pm.told (device_behind c.conclude.result)) c.conclude.result
  ends = made_ends drafted (removes_stable c.args.entry.dir c.args.entry.offset c.args.entry.number) c.conclude.ensures.concluded

pub returns-clause-removes : goal.returns-clause-removes
returns-clause-removes g c =
    made_done (drafted g c) (removes_stable c.args.entry.dir c.args.entry.offset c.args.entry.number) c.conclude.result (g.D.Pm.words (device_behind c.conclude.result)) c.conclude.ensures.done c.conclude.ensures.words

pub returns-clause-shut : goal.returns-clause-shut
returns-clause-shut g c = (ends g c).shut

pub returns-clause-settled : goal.returns-clause-settled
returns-clause-settled g c = (ends g c).settled

pub returns-clause-phase : goal.returns-clause-phase
returns-clause-phase g c =
    made_phase (made_of (drafted g c) (removes_stable c.args.entry.dir c.args.entry.offset c.args.entry.number)).1.0 (removal_spares c.requires.asked (g.met.D.Pm.words_fit c.args.dev)) (removal_settles c.requires.asked) (ends g c)
