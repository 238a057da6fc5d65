use Rattle.std.proofs.Common.{◌≡◌, ◌⊎◌, ◌+◌, ◌*◌, ◌/◌, ◌≤◌, ℕ, List, sym, ap, subst, ◌∙◌, inl, inr, arith}
use Rattle.std.specs.Prelude.{OnOk}
use Rattle.ct_base.specs.declared.inode.Inode.{Inode}
use Rattle.ct_base.specs.Settled.{IsShut, Named, Pair, with_pairs}
use Rattle.ct_base.specs.Walk.{page_at}
use Rattle.ct_record.specs.Record.{Concluded}
use Rattle.ct_record.specs.Seen.{count_of, device_behind, drafted, pairs_of, words_under}
use Rattle.ct_record.proofs.Drafts.{ok_map}
use Rattle.ct_record.proofs.Ended.{ok_both}
use Rattle.ct_words.specs.Shown.{shown_word}
use Rattle.ct_write.specs.Lengthened.{IsLengthened, IsLengthenedOrNot}
use Rattle.ct_write.specs.Recorded.{IsBare, Sized}
use Rattle.ct_write.proofs.Changing.{changed_sound}
use Rattle.ct_write.proofs.Lengthening.{few, file_lengthened, inode_there, lengthened, lengthened_ready, lengthening, lengthening_turns, size_shown, sized_agrees}
use Rattle.ct_pm.proofs.Phases.{phase_weaker}
use Rattle.ct_commit.specs.Made.{Drafted}
use Rattle.ct_commit.proofs.Made.{made_done, made_ends, made_of, made_phase, state_or}
use Rattle.ct_write.proofs.Sizing.{sized_done}
use Rattle.ct_write.proofs.Turning.{bare_spares, record_state}
use Rattle.ct_write.proofs.longer.lengthen.Given.{Over}
use Rattle.ct_write.proofs.longer.lengthen.Goals as goal

module _ (g : Over) (c : goal.After-draft-1 g) where
  start_is : words_under c.begin-draft.result ≡ g.D.Pm.words c.args.dev
  start_is = ap (λ d. g.D.Pm.words d) (c.begin-draft.ensures.dev ∙ c.of.ensures)

pub put_size-drafted-requires-clause-there : goal.put_size-drafted-requires-clause-there
put_size-drafted-requires-clause-there g c none =
    inode_there (g.D.Pm.words c.args.dev) c.args.inode c.requires.can.ready c.requires.can.live (sym (ap (λ (l : List ℕ). page_at l 4 (64 * c.args.inode / 4096)) (start_is g c)) ∙ none)

pub put_size-drafted-requires-clause-was : goal.put_size-drafted-requires-clause-was
put_size-drafted-requires-clause-was g c =
    ap (λ (l : List Pair). shown_word (with_pairs l (words_under c.begin-draft.result)) (64 * c.args.inode + 8)) c.begin-draft.ensures.pairs
    ∙ ap (λ (l : List ℕ). shown_word l (64 * c.args.inode + 8)) (start_is g c)
    ∙ size_shown (g.D.Pm.words c.args.dev) c.args.inode (few c.requires.can) ∙ sym (ap (λ (f : Inode). f.size) c.get-was.ensures)

module _ (g : Over) (c : goal.After-conclude g) where
  sized : OnOk c.put_size-drafted.result (Sized (words_under c.begin-draft.result) (drafted c.put_size-drafted.new.draft) c.args.inode c.args.len)
  sized = subst (λ (l : List Pair). OnOk c.put_size-drafted.result (Sized (with_pairs l (words_under c.begin-draft.result)) (drafted c.put_size-drafted.new.draft) c.args.inode c.args.len)) c.begin-draft.ensures.pairs c.put_size-drafted.ensures.sized

  bare : OnOk c.put_size-drafted.result ((w : ℕ) → Named (pairs_of c.put_size-drafted.new.draft) w → IsBare (words_under c.begin-draft.result) w)
  bare = ok_map c.put_size-drafted.result (λ (names : (w : ℕ) → Named (pairs_of c.put_size-drafted.new.draft) w → Named (pairs_of c.begin-draft.result) w ⊎ IsBare (words_under c.begin-draft.result) w) (w : ℕ) (named : Named (pairs_of c.put_size-drafted.new.draft) w). elim (names w named) [
    | inl before ↦ absurd (subst (λ (l : List Pair). Named l w) c.begin-draft.ensures.pairs before)
    | inr here ↦ here
  ]) c.put_size-drafted.ensures.bare

  count : OnOk c.put_size-drafted.result (count_of c.put_size-drafted.new.draft ≤ 5111)
  count = ok_map c.put_size-drafted.result (λ (le : count_of c.put_size-drafted.new.draft ≤ count_of c.begin-draft.result + 1). let none = c.begin-draft.ensures.count in let goal : count_of c.put_size-drafted.new.draft ≤ 5111 = omega (arith, le, none) in goal) c.put_size-drafted.ensures.count

  drafts : Drafted (λ start after. Sized start after c.args.inode c.args.len) IsBare 5111 c.put_size-drafted.result c.args.dev c.begin-draft.result c.put_size-drafted.new.draft
  drafts = record { is = c.begin-draft.ensures.dev ∙ c.of.ensures; drafts = c.put_size-drafted.ensures.drafts; makes = sized; named = bare; few = count }

  ends : Concluded (g.D.Pm.words c.args.dev) (g.D.Pm.told c.args.dev) (made_of drafts (sized_done c.args.inode c.args.len)).0 5111 (g.D.Pm.words (device_behind c.conclude.result)) (g.D.Pm.told (device_behind c.conclude.result)) c.conclude.result
  ends = made_ends drafts (sized_done c.args.inode c.args.len) c.conclude.ensures.concluded

  done : OnOk c.conclude.result (Sized (g.D.Pm.words c.args.dev) (g.D.Pm.words (device_behind c.conclude.result)) c.args.inode c.args.len)
  done = made_done drafts (sized_done c.args.inode c.args.len) c.conclude.result (g.D.Pm.words (device_behind c.conclude.result)) c.conclude.ensures.done c.conclude.ensures.words

pub returns-clause-lengthened : goal.returns-clause-lengthened
returns-clause-lengthened g c = ok_map c.conclude.result (λ s. lengthened c.requires.can s) (done g c)

pub returns-clause-file : goal.returns-clause-file
returns-clause-file g c = ok_map c.conclude.result (λ s. file_lengthened c.requires.can (lengthened c.requires.can s)) (done g c)

pub returns-clause-sound : goal.returns-clause-sound
returns-clause-sound g c = ok_map c.conclude.result (λ s. changed_sound (lengthening c.requires.can (lengthened c.requires.can s)) s.tables) (done g c)

pub returns-clause-agrees : goal.returns-clause-agrees
returns-clause-agrees g c = ok_map c.conclude.result (λ s frames agrees. sized_agrees s agrees) (done g c)

pub returns-clause-settled : goal.returns-clause-settled
returns-clause-settled g c = (ends g c).settled

pub returns-clause-ready : goal.returns-clause-ready
returns-clause-ready g c =
    ok_map c.conclude.result (λ both. lengthened_ready c.requires.can both.0 both.1)
    (ok_both (Sized (g.D.Pm.words c.args.dev) (g.D.Pm.words (device_behind c.conclude.result)) c.args.inode c.args.len) (IsShut (g.D.Pm.words (device_behind c.conclude.result))) c.conclude.result (done g c) (ends g c).shut)

pub returns-clause-phase : goal.returns-clause-phase
returns-clause-phase g c =
    let spares = bare_spares (lengthening_turns c.requires.can) in
    phase_weaker (IsLengthenedOrNot (g.D.Pm.words c.args.dev) c.args.inode c.args.len) (record_state (lengthening_turns c.requires.can) (λ after. IsLengthened (g.D.Pm.words c.args.dev) after c.args.inode c.args.len) (λ after s. lengthened c.requires.can s)) (omega arith)
    (made_phase (made_of (drafts g c) (sized_done c.args.inode c.args.len)).1.0 spares (state_or spares) (ends g c))
