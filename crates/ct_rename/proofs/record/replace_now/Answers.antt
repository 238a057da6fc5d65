use Rattle.std.proofs.Common.{◌+◌, ℕ, List, subst, ◌∙◌, arith}
use Rattle.std.specs.Prelude.{OnOk}
use Rattle.ct_base.specs.declared.inode.Inode.{Inode}
use Rattle.ct_base.specs.Inode.{inode}
use Rattle.ct_base.specs.Settled.{Named}
use Rattle.ct_base.specs.View.{view}
use Rattle.ct_record.specs.Record.{Concluded}
use Rattle.ct_record.specs.Seen.{device_behind, drafted, pairs_of, words_under}
use Rattle.ct_record.proofs.Ended.{ok_both, ok_then}
use Rattle.ct_rename.specs.Moves.{IsReplaceWord, Replaces}
use Rattle.ct_rename.proofs.Changing.{AreBytes, ReplacesBy, replaces_by_beside, replacing_settles, replacing_spares}
use Rattle.ct_rename.proofs.Moving.{few, from_live}
use Rattle.ct_commit.specs.Made.{Drafted}
use Rattle.ct_commit.proofs.Made.{made_done, made_ends, made_of, made_phase}
use Rattle.ct_rename.proofs.Spared.{replace_spares}
use Rattle.ct_rename.proofs.record.replace_now.Given.{Over}
use Rattle.ct_rename.proofs.record.replace_now.Goals as goal

pub get-from-requires-clause-from : goal.get-from-requires-clause-from
get-from-requires-clause-from g c = (from_live c.requires.can).number.from

pub get-from-requires-clause-to : goal.get-from-requires-clause-to
get-from-requires-clause-to g c = omega (arith, (from_live c.requires.can).number.to, few c.requires.can)

pub get-to-requires-clause-from : goal.get-to-requires-clause-from
get-to-requires-clause-from g c = c.requires.can.owns.live.number.from

pub get-to-requires-clause-to : goal.get-to-requires-clause-to
get-to-requires-clause-to g c = omega (arith, c.requires.can.owns.live.number.to, few c.requires.can)

module _ (g : Over) (c : goal.After-conclude g) where
  abbrev w : List ℕ
  w = g.D.Pm.words c.args.dev

  abbrev R : List ℕ → List ℕ → Type 0
  R = ReplacesBy c.args.entry.dir c.args.entry.offset c.args.gone.dir c.args.gone.offset c.args.entry.number c.args.gone.number c.args.name.now

  abbrev N : ℕ → Type 0
  N = IsReplaceWord w ((inode (view w) c.args.entry.dir).base + c.args.entry.offset) (inode (view w) c.args.gone.dir).base c.args.gone.offset c.args.gone.number

  named : OnOk c.draft_replace-written.result ((word : ℕ) → Named (pairs_of c.draft_replace-written.new.draft) word → N word)
  named =
      let P : Type 0 = (word : ℕ) → Named (pairs_of c.draft_replace-written.new.draft) word → IsReplaceWord (words_under c.begin-draft.result) (c.get-from.result.base + c.args.entry.offset) c.get-to.result.base c.args.gone.offset c.args.gone.number word in
      ok_then P c.draft_replace-written.result (λ names word is.
      subst (λ (f : Inode). IsReplaceWord w ((inode (view w) c.args.entry.dir).base + c.args.entry.offset) f.base c.args.gone.offset c.args.gone.number word) c.get-to.ensures
      (subst (λ (f : Inode). IsReplaceWord w (f.base + c.args.entry.offset) c.get-to.result.base c.args.gone.offset c.args.gone.number word) c.get-from.ensures
      (subst (λ e. IsReplaceWord (g.D.Pm.words e) (c.get-from.result.base + c.args.entry.offset) c.get-to.result.base c.args.gone.offset c.args.gone.number word) (c.begin-draft.ensures.dev ∙ c.of.ensures) (names word is))))
      c.draft_replace-written.ensures.named

  of_draft : Drafted R (λ was. N) 242 c.draft_replace-written.result c.args.dev c.begin-draft.result c.draft_replace-written.new.draft
  of_draft = record {
    is = c.begin-draft.ensures.dev ∙ c.of.ensures;
    drafts = c.draft_replace-written.ensures.drafts;
    makes =
        let M : Type 0 = Replaces (words_under c.begin-draft.result) (drafted c.draft_replace-written.new.draft) c.args.entry.dir c.args.entry.offset c.args.gone.dir c.args.gone.offset c.args.entry.number c.args.gone.number c.args.name.now in
        ok_then (M × AreBytes c.args.name.now) c.draft_replace-written.result (λ has. record { replaces = has.0; small = has.1 })
        (ok_both M (AreBytes c.args.name.now) c.draft_replace-written.result c.draft_replace-written.ensures.replaces c.draft_replace-written.ensures.bytes);
    named = named;
    few = c.draft_replace-written.ensures.few;
  }

  ends : Concluded w (g.D.Pm.told c.args.dev) (made_of of_draft replaces_by_beside).0 242 (g.D.Pm.words (device_behind c.conclude.result)) (g.D.Pm.told (device_behind c.conclude.result)) c.conclude.result
  ends = made_ends of_draft replaces_by_beside c.conclude.ensures.concluded

  done : OnOk c.conclude.result (R w (g.D.Pm.words (device_behind c.conclude.result)))
  done = made_done of_draft replaces_by_beside c.conclude.result (g.D.Pm.words (device_behind c.conclude.result)) c.conclude.ensures.done c.conclude.ensures.words

pub returns-clause-replaces : goal.returns-clause-replaces
returns-clause-replaces g c = ok_then (R g c (g.D.Pm.words c.args.dev) (g.D.Pm.words (device_behind c.conclude.result))) c.conclude.result (λ m. m.replaces) (done g c)

pub returns-clause-bytes : goal.returns-clause-bytes
returns-clause-bytes g c = ok_then (R g c (g.D.Pm.words c.args.dev) (g.D.Pm.words (device_behind c.conclude.result))) c.conclude.result (λ m. m.small) (done g c)

pub returns-clause-shut : goal.returns-clause-shut
returns-clause-shut g c = (ends g c).shut

pub returns-clause-settled : goal.returns-clause-settled
returns-clause-settled g c = (ends g c).settled

pub returns-clause-phase : goal.returns-clause-phase
returns-clause-phase g c =
    made_phase (made_of (of_draft g c) replaces_by_beside).1.0 (replacing_spares c.requires.can c.requires.asked c.requires.away c.requires.tree (replace_spares c.requires.can c.requires.asked (g.met.D.Pm.words_fit c.args.dev)))
    (replacing_settles c.requires.can c.requires.asked c.requires.away c.requires.tree) (ends g c)
