use Rattle.std.proofs.Common.{◌≡◌, ◌+◌, ◌/◌, ℕ, List, sym, subst, ◌∙◌, arith}
use Rattle.std.specs.Prelude.{OnOk}
use Rattle.ct_base.specs.declared.inode.Inode.{Inode}
use Rattle.ct_base.specs.Inode.{inode}
use Rattle.ct_base.specs.Settled.{Named}
use Rattle.ct_base.specs.View.{view}
use Rattle.ct_base.specs.Walk.{page_at}
use Rattle.ct_record.specs.Record.{Concluded}
use Rattle.ct_record.specs.Seen.{device_behind, drafted, pairs_of, words_under}
use Rattle.ct_record.proofs.Ended.{ok_both, ok_then}
use Rattle.ct_rename.specs.Moves.{IsMoveWord, MovesEntry}
use Rattle.ct_rename.proofs.Changing.{AreBytes, MovesBy, moved_by, moves_by_beside, moving_settles, moving_spares}
use Rattle.ct_rename.proofs.Moving.{few, from_live}
use Rattle.ct_commit.specs.Made.{Drafted}
use Rattle.ct_commit.proofs.Made.{made_done, made_ends, made_of, made_phase}
use Rattle.ct_rename.proofs.Spared.{move_spares}
use Rattle.ct_rename.proofs.record.move_now.Given.{Over}
use Rattle.ct_rename.proofs.record.move_now.Goals as goal

pub get-from-requires-clause-from : goal.get-from-requires-clause-from
get-from-requires-clause-from g c = (from_live c.requires.can).number.from

pub get-from-requires-clause-to : goal.get-from-requires-clause-to
get-from-requires-clause-to g c = omega (arith, (from_live c.requires.can).number.to, few c.requires.can)

module _ (g : Over) (c : goal.After-conclude g) where
  abbrev w : List ℕ
  w = g.D.Pm.words c.args.dev

  abbrev R : List ℕ → List ℕ → Type 0
  R = MovesBy c.args.entry.dir c.args.entry.offset c.args.spot.now.dir c.args.spot.now.offset c.args.entry.number c.args.spot.now.name.now

  abbrev N : ℕ → Type 0
  N = IsMoveWord w ((inode (view w) c.args.entry.dir).base + c.args.entry.offset) ((inode (view w) c.args.spot.now.dir).base + c.args.spot.now.offset) c.args.spot.now.dir

  named : OnOk c.draft_move-written.result ((word : ℕ) → Named (pairs_of c.draft_move-written.new.draft) word → N word)
  named =
      let P : Type 0 = (word : ℕ) → Named (pairs_of c.draft_move-written.new.draft) word → IsMoveWord (words_under c.begin-draft.result) (c.get-from.result.base + c.args.entry.offset) (c.args.spot.now.inode.base + c.args.spot.now.offset) c.args.spot.now.dir word in
      ok_then P c.draft_move-written.result (λ names word is.
      subst (λ (f : Inode). IsMoveWord w ((inode (view w) c.args.entry.dir).base + c.args.entry.offset) (f.base + c.args.spot.now.offset) c.args.spot.now.dir word) (sym c.requires.to)
      (subst (λ (f : Inode). IsMoveWord w (f.base + c.args.entry.offset) (c.args.spot.now.inode.base + c.args.spot.now.offset) c.args.spot.now.dir word) c.get-from.ensures
      (subst (λ e. IsMoveWord (g.D.Pm.words e) (c.get-from.result.base + c.args.entry.offset) (c.args.spot.now.inode.base + c.args.spot.now.offset) c.args.spot.now.dir word) (c.begin-draft.ensures.dev ∙ c.of.ensures) (names word is))))
      c.draft_move-written.ensures.named

  of_draft : Drafted R (λ was. N) 65 c.draft_move-written.result c.args.dev c.begin-draft.result c.draft_move-written.new.draft
  of_draft = record {
    is = c.begin-draft.ensures.dev ∙ c.of.ensures;
    drafts = c.draft_move-written.ensures.drafts;
    makes =
        let M : Type 0 = MovesEntry (words_under c.begin-draft.result) (drafted c.draft_move-written.new.draft) c.args.entry.dir c.args.entry.offset c.args.spot.now.dir c.args.spot.now.offset c.args.entry.number c.args.spot.now.name.now in
        ok_then (M × AreBytes c.args.spot.now.name.now) c.draft_move-written.result (λ has. record { moves = has.0; small = has.1 })
        (ok_both M (AreBytes c.args.spot.now.name.now) c.draft_move-written.result c.draft_move-written.ensures.moves c.draft_move-written.ensures.bytes);
    named = named;
    few = c.draft_move-written.ensures.few;
  }

  there : page_at w 4 (((inode (view w) c.args.spot.now.dir).base + c.args.spot.now.offset) / 4096) ≡ 0 → ⊥
  there = subst (λ (f : Inode). page_at w 4 ((f.base + c.args.spot.now.offset) / 4096) ≡ 0 → ⊥) (sym c.requires.to) c.requires.there

  ends : Concluded w (g.D.Pm.told c.args.dev) (made_of of_draft moves_by_beside).0 65 (g.D.Pm.words (device_behind c.conclude.result)) (g.D.Pm.told (device_behind c.conclude.result)) c.conclude.result
  ends = made_ends of_draft moves_by_beside c.conclude.ensures.concluded

pub returns-clause-moves : goal.returns-clause-moves
returns-clause-moves g c =
    ok_then (R g c (g.D.Pm.words c.args.dev) (g.D.Pm.words (device_behind c.conclude.result))) c.conclude.result (λ m. moved_by c.requires.can m)
    (made_done (of_draft g c) moves_by_beside c.conclude.result (g.D.Pm.words (device_behind c.conclude.result)) c.conclude.ensures.done c.conclude.ensures.words)

pub returns-clause-shut : goal.returns-clause-shut
returns-clause-shut g c = (ends g c).shut

pub returns-clause-settled : goal.returns-clause-settled
returns-clause-settled g c = (ends g c).settled

pub returns-clause-phase : goal.returns-clause-phase
returns-clause-phase g c =
    made_phase (made_of (of_draft g c) moves_by_beside).1.0 (moving_spares c.requires.can c.requires.tree (move_spares c.requires.can (g.met.D.Pm.words_fit c.args.dev) (there g c))) (moving_settles c.requires.can c.requires.tree) (ends g c)
