use Rattle.std.proofs.Common.{ℕ, sym, ◌∙◌, subst, inl, inr, ◌⊎◌, arith}
use Rattle.ct_base.specs.Inode.{inode, part}
use Rattle.ct_base.specs.Rules.{placed}
use Rattle.ct_base.specs.Settled.{Named}
use Rattle.ct_base.specs.Slots.{IsSlot}
use Rattle.ct_base.specs.View.{view}
use Rattle.ct_cut.specs.GivenUp.{GivesUp}
use Rattle.ct_dir.specs.Directory.{dir_of}
use Rattle.ct_record.specs.Seen.{drafted, pairs_of, words_under}
use Rattle.ct_record.proofs.Chain.{drafts_then}
use Rattle.ct_record.proofs.Ended.{ok_then}
use Rattle.ct_write.specs.Recorded.{IsBare}
use Rattle.ct_remove.specs.Erased.{Erases, IsErased}
use Rattle.ct_remove.proofs.Asked.{dir_live, few, object_live, owns_or}
use Rattle.ct_remove.proofs.Drafting.{cells_on, tables_on}
use Rattle.ct_remove.proofs.Erasing.{removes_bare, removes_whole}
use Rattle.ct_remove.proofs.Giving.{can_on, erased_leave, object_there, seen_same, slot_used}
use Rattle.ct_remove.proofs.draft.draft_removal.Goals as goal

pub erase-requires-clause-placed : goal.erase-requires-clause-placed
erase-requires-clause-placed g c = subst Rattle.ct_base.specs.Rules.IsPlaced c.requires.dir (c.requires.asked.rest.sound placed c.args.entry.dir (dir_live c.requires.asked))

pub erase-requires-clause-used : goal.erase-requires-clause-used
erase-requires-clause-used g c = subst (λ i. IsSlot (dir_of (words_under c.args.draft.now) i) c.args.entry.offset) c.requires.dir (slot_used c.requires.asked)

pub erase-requires-clause-from : goal.erase-requires-clause-from
erase-requires-clause-from g c = (object_live c.requires.asked).number.from

pub erase-requires-clause-to : goal.erase-requires-clause-to
erase-requires-clause-to g c = omega (arith, (object_live c.requires.asked).number.to, few c.requires.asked)

pub erase-requires-clause-there : goal.erase-requires-clause-there
erase-requires-clause-there g c = object_there c.requires.asked

pub returns-then-level-eq-NO_PARTITION-clause-removes : goal.returns-then-level-eq-NO_PARTITION-clause-removes
returns-then-level-eq-NO_PARTITION-clause-removes g c = removes_bare c.requires.asked (subst (λ i. Erases (words_under c.args.draft.now) (drafted c.erase.new.draft) i.base c.args.entry.offset c.args.entry.number) (sym c.requires.dir) c.in_ok-erase.ensures.erases) (omega (arith, c.requires.level))

pub returns-then-level-eq-NO_PARTITION-clause-named : goal.returns-then-level-eq-NO_PARTITION-clause-named
returns-then-level-eq-NO_PARTITION-clause-named g c word named = inl (c.in_ok-erase.ensures.named word named)

pub give_up-requires-clause-tables : goal.give_up-requires-clause-tables
give_up-requires-clause-tables g c = tables_on c.erase.ensures.drafts c.requires.asked.rest.tables

pub give_up-requires-clause-from : goal.give_up-requires-clause-from
give_up-requires-clause-from g c = (object_live c.requires.asked).number.from

pub give_up-requires-clause-to : goal.give_up-requires-clause-to
give_up-requires-clause-to g c = omega (arith, (object_live c.requires.asked).number.to, few c.requires.asked)

pub give_up-requires-clause-can : goal.give_up-requires-clause-can
give_up-requires-clause-can g c = can_on c.erase.ensures.drafts.same c.args.entry.number (c.requires.can (λ z. omega (arith, z)))

pub give_up-requires-clause-maps : goal.give_up-requires-clause-maps
give_up-requires-clause-maps g c = c.in_ok-erase.ensures.maps 1

pub give_up-requires-clause-leave : goal.give_up-requires-clause-leave
give_up-requires-clause-leave g c =
    erased_leave c.requires.asked (g.met.D.Pm.words_fit c.args.draft.now.dev) c.erase.ensures.drafts.same (pairs_of c.erase.new.draft)
    (subst (λ i. (word : ℕ) → Named (pairs_of c.erase.new.draft) word → IsErased (words_under c.args.draft.now) i.base c.args.entry.offset c.args.entry.number word) (sym c.requires.dir) c.in_ok-erase.ensures.named)

pub returns-clause-drafts : goal.returns-clause-drafts
returns-clause-drafts g c = drafts_then c.erase.ensures.drafts c.give_up.ensures.drafts

pub returns-clause-removes : goal.returns-clause-removes
returns-clause-removes g c =
    let start = words_under c.args.draft.now in
    let was = words_under c.erase.new.draft in
    let mid = drafted c.erase.new.draft in
    let last = drafted c.give_up.new.draft in
    let number = c.args.entry.number in
    let P : Type 0 = GivesUp mid last (part (inode (view was) number)) in
    ok_then P c.give_up.result (λ given.
    removes_whole c.requires.asked (subst (λ i. Erases start mid i.base c.args.entry.offset number) (sym c.requires.dir) c.in_ok-erase.ensures.erases)
    (elim (owns_or c.requires.asked) [ inl owns ↦ owns | inr none ↦ absurd (omega (arith, none, c.requires.level)) ])
    (subst (λ v. GivesUp mid last (part (inode v number))) (seen_same c.erase.ensures.drafts.same) given)) c.give_up.ensures.gives_up

pub returns-clause-named : goal.returns-clause-named
returns-clause-named g c =
    let start = words_under c.args.draft.now in
    let was = words_under c.erase.new.draft in
    let P : Type 0 = (w : ℕ) → Named (pairs_of c.give_up.new.draft) w → Named (pairs_of c.erase.new.draft) w ⊎ IsBare was w in
    ok_then P c.give_up.result (λ bare word named. elim (bare word named) [
      | inl before ↦ inl (c.in_ok-erase.ensures.named word before)
      | inr off ↦ inr (λ q high is. off q high (cells_on c.erase.ensures.drafts 4 q ∙ is))
    ]) c.give_up.ensures.bare
