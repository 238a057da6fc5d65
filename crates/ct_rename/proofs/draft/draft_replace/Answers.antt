use Rattle.std.proofs.Common.{◌≡◌, ◌⊎◌, ℕ, ◌+◌, ◌/◌, ◌<◌, ◌≤◌, refl, sym, ◌∙◌, subst, inl, inr, arith}
use Rattle.ct_base.specs.declared.inode.Inode.{Inode}
use Rattle.ct_base.specs.Inode.{inode, part_bytes}
use Rattle.ct_base.specs.Rules.{HasRoom, IsPlaced, placed}
use Rattle.ct_base.specs.Settled.{Named}
use Rattle.ct_base.specs.Slots.{IsSlot}
use Rattle.ct_base.specs.View.{view}
use Rattle.ct_base.specs.Walk.{page_at}
use Rattle.ct_dir.specs.Directory.{dir_of}
use Rattle.ct_record.specs.Seen.{drafted, pairs_of, words_under}
use Rattle.ct_record.proofs.Chain.{apart_of, drafts_then}
use Rattle.ct_record.proofs.Ended.{ok_then}
use Rattle.ct_record.proofs.Lawful.{pairs_shut}
use Rattle.ct_remove.proofs.Asked.{dir_owns, dir_room, slot_ends}
use Rattle.ct_remove.proofs.Drafting.{cells_on, place_on, tables_on}
use Rattle.ct_remove.proofs.Giving.{seen_same, slot_there}
use Rattle.ct_pm.specs.Device.{IsIn}
use Rattle.ct_rename.specs.Moves.{IsLinkWord, Relinks}
use Rattle.ct_rename.proofs.Moving.{from_ends, from_live, from_owns, from_room, from_used, to_room}
use Rattle.ct_rename.proofs.Replacing.{from_other, from_same, other_page, to_same}
use Rattle.ct_remove.proofs.Asked.{dir_other}
use Rattle.ct_rename.proofs.draft.draft_replace.Goals as goal

pub relink-requires-clause-tables : goal.relink-requires-clause-tables
relink-requires-clause-tables g c = tables_on c.draft_removal.ensures.drafts c.requires.can.rest.tables

pub relink-requires-clause-placed : goal.relink-requires-clause-placed
relink-requires-clause-placed g c = subst IsPlaced c.requires.from (c.requires.can.rest.sound placed c.args.entry.dir (from_live c.requires.can))

pub relink-requires-clause-used : goal.relink-requires-clause-used
relink-requires-clause-used g c =
    let o = c.args.entry.offset in
    let w = words_under c.args.draft.now in
    let was = subst (λ i. IsSlot (dir_of w i) o) c.requires.from (from_used c.requires.can) in
    subst (λ b. IsSlot (Rattle.ct_base.specs.Objects.object_of b c.args.from) o) (sym (seen_same c.draft_removal.ensures.drafts.same)) was

pub relink-requires-clause-to_room : goal.relink-requires-clause-to_room
relink-requires-clause-to_room g c = subst HasRoom c.requires.to (to_room c.requires.can)

pub relink-requires-clause-there : goal.relink-requires-clause-there
relink-requires-clause-there g c = λ z.
    let w = words_under c.args.draft.now in
    let there = subst (λ (f : Inode). page_at w 4 ((f.base + c.args.gone.offset) / 4096) ≡ 0 → ⊥) c.requires.to (slot_there c.requires.asked (g.met.D.Pm.words_fit c.args.draft.now.dev)) in
    there (sym (cells_on c.draft_removal.ensures.drafts 4 _) ∙ z)

pub relink-requires-clause-from_page : goal.relink-requires-clause-from_page
relink-requires-clause-from_page g c =
    let w = words_under c.args.draft.now in
    let o = c.args.entry.offset in
    let r = c.in_ok-draft_removal.ensures.removes in
    let room = from_room c.requires.can in
    let low = room.part.low in
    let q = ((inode (view w) c.args.entry.dir).base + o) / 4096 in
    let lt : o < part_bytes (inode (view w) c.args.entry.dir).level = omega (arith, from_ends c.requires.can, room.size) in
    let is = r.pages q (omega (arith, low)) (other_page c.requires.asked c.args.entry.dir o (from_owns c.requires.can) (from_other c.requires.can c.requires.asked) lt) ∙ sym (cells_on c.draft_removal.ensures.drafts 4 q) in
    subst (λ (f : Inode). page_at (drafted c.draft_removal.new.draft) 4 ((f.base + o) / 4096) ≡ page_at (words_under c.draft_removal.new.draft) 4 ((f.base + o) / 4096)) c.requires.from is

pub relink-requires-clause-to_page : goal.relink-requires-clause-to_page
relink-requires-clause-to_page g c =
    let w = words_under c.args.draft.now in
    let s = c.args.gone.offset in
    let r = c.in_ok-draft_removal.ensures.removes in
    let room = dir_room c.requires.asked in
    let low = room.part.low in
    let q = ((inode (view w) c.args.gone.dir).base + s) / 4096 in
    let lt : s < part_bytes (inode (view w) c.args.gone.dir).level = omega (arith, slot_ends c.requires.asked, room.size) in
    let is = r.pages q (omega (arith, low)) (other_page c.requires.asked c.args.gone.dir s (dir_owns c.requires.asked) (dir_other c.requires.asked) lt) ∙ sym (cells_on c.draft_removal.ensures.drafts 4 q) in
    subst (λ (f : Inode). page_at (drafted c.draft_removal.new.draft) 4 ((f.base + s) / 4096) ≡ page_at (words_under c.draft_removal.new.draft) 4 ((f.base + s) / 4096)) c.requires.to is

pub returns-clause-replaces : goal.returns-clause-replaces
returns-clause-replaces g c =
    let w = words_under c.args.draft.now in
    let mid = drafted c.draft_removal.new.draft in
    let last = drafted c.relink.new.draft in
    let o = c.args.entry.offset in
    let s = c.args.gone.offset in
    let i = c.args.entry.number in
    let x = c.args.name.now in
    let k = c.args.gone.dir in
    let r = c.in_ok-draft_removal.ensures.removes in
    let from = from_same c.requires.can c.requires.asked r ∙ c.requires.from in
    let to = to_same c.requires.can c.requires.asked r ∙ c.requires.to in
    let room = to_room c.requires.can in
    let P : Type 0 = Relinks mid last (c.args.from.base + o) (c.args.to.base + s) i x in
    ok_then P c.relink.result (λ links. record {
      middle = mid;
      removes = r;
      shut = pairs_shut (pairs_of c.draft_removal.new.draft) (words_under c.draft_removal.new.draft) (apart_of c.draft_removal.new.draft) c.draft_removal.new.draft.shut;
      moves = record {
        linked = last;
        links = subst (λ (f : Inode). Relinks mid last (f.base + o) ((inode (view mid) k).base + s) i x) (sym from) (subst (λ (f : Inode). Relinks mid last (c.args.from.base + o) (f.base + s) i x) (sym to) links);
        size = inl (subst (λ (f : Inode). s + 256 ≤ f.size) (sym (to_same c.requires.can c.requires.asked r)) (slot_ends c.requires.asked), refl);
      };
    }) c.relink.ensures.links

pub returns-clause-named : goal.returns-clause-named
returns-clause-named g c =
    let w = words_under c.args.draft.now in
    let at = words_under c.draft_removal.new.draft in
    let p = c.args.from.base + c.args.entry.offset in
    let q = c.args.to.base + c.args.gone.offset in
    let P : Type 0 = (word : ℕ) → Named (pairs_of c.relink.new.draft) word → IsLinkWord at p q word ⊎ Named (pairs_of c.draft_removal.new.draft) word in
    ok_then P c.relink.result (λ names word named. elim (names word named) [
      | inl (inl one) ↦ inl (inl (subst (λ x. IsIn x 32 word) (place_on c.draft_removal.ensures.drafts p) one))
      | inl (inr two) ↦ inl (inr (subst (λ x. IsIn x 32 word) (place_on c.draft_removal.ensures.drafts q) two))
      | inr before ↦ inr (c.in_ok-draft_removal.ensures.named word before)
    ]) c.relink.ensures.named

pub returns-clause-drafts : goal.returns-clause-drafts
returns-clause-drafts g c = drafts_then c.draft_removal.ensures.drafts c.relink.ensures.drafts
