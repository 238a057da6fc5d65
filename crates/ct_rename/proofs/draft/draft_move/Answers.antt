use Rattle.std.proofs.Common.{◌≡◌, ◌⊎◌, ℕ, ◌+◌, ◌*◌, List, sym, ap, ◌∙◌, subst, inl, inr, arith}
use Rattle.ct_base.specs.declared.inode.Inode.{Inode}
use Rattle.ct_base.specs.Inode.{inode}
use Rattle.ct_base.specs.Rules.{HasRoom, IsPlaced, placed}
use Rattle.ct_base.specs.Settled.{Named, Pair, with_pairs}
use Rattle.ct_base.specs.Slots.{IsSlot}
use Rattle.ct_base.specs.View.{view}
use Rattle.ct_dir.specs.Directory.{dir_of}
use Rattle.ct_enter.specs.Entry.{IsSizeWord, RaisesSize}
use Rattle.ct_pm.specs.Device.{IsIn}
use Rattle.ct_record.specs.Seen.{drafted, pairs_of, words_under}
use Rattle.ct_record.proofs.Chain.{drafts_then}
use Rattle.ct_record.proofs.Ended.{ok_then}
use Rattle.ct_remove.proofs.Drafting.{cells_on, place_on, tables_on}
use Rattle.ct_image.proofs.Beside.{beside_count}
use Rattle.ct_record.proofs.Under.{under_beside}
use Rattle.ct_words.specs.Drafted.{MapsAlike}
use Rattle.ct_rename.specs.Moves.{Relinks}
use Rattle.ct_rename.proofs.Moving.{from_live, from_used, to_fits, to_room, to_there}
use Rattle.ct_rename.proofs.draft.draft_move.Given.{Over}
use Rattle.ct_rename.proofs.draft.draft_move.Goals as goal

pub relink-requires-clause-placed : goal.relink-requires-clause-placed
relink-requires-clause-placed g c = subst IsPlaced c.requires.from (c.requires.can.rest.sound placed c.args.entry.dir (from_live c.requires.can))

pub relink-requires-clause-used : goal.relink-requires-clause-used
relink-requires-clause-used g c = subst (λ i. IsSlot (dir_of (words_under c.args.draft.now) i) c.args.entry.offset) c.requires.from (from_used c.requires.can)

pub relink-requires-clause-to_room : goal.relink-requires-clause-to_room
relink-requires-clause-to_room g c = subst HasRoom c.requires.to (to_room c.requires.can)

pub overflow_add-spot : goal.overflow_add-spot
overflow_add-spot g c = omega (arith, to_fits c.requires.can)

pub raise_size-requires-clause-tables : goal.raise_size-requires-clause-tables
raise_size-requires-clause-tables g c = tables_on c.relink.ensures.drafts c.requires.can.rest.tables

pub raise_size-requires-clause-there : goal.raise_size-requires-clause-there
raise_size-requires-clause-there g c = λ z. to_there c.requires.can (sym (cells_on c.relink.ensures.drafts 4 _) ∙ z)

module _ (g : Over) (c : goal.After-raise_size g) where
  -- the words before any pair
  begun : drafted c.args.draft.now ≡ words_under c.args.draft.now
  begun = ap (λ (ps : List Pair). with_pairs ps (words_under c.args.draft.now)) c.requires.begun

  first : Relinks (drafted c.args.draft.now) (drafted c.relink.new.draft) (c.args.from.base + c.args.entry.offset) (c.args.spot.now.inode.base + c.args.spot.now.offset) c.args.entry.number c.args.spot.now.name.now
  first = c.in_ok-relink.ensures.links

  links : Relinks (words_under c.args.draft.now) (drafted c.relink.new.draft) ((inode (view (words_under c.args.draft.now)) c.args.entry.dir).base + c.args.entry.offset) ((inode (view (words_under c.args.draft.now)) c.args.spot.now.dir).base + c.args.spot.now.offset) c.args.entry.number c.args.spot.now.name.now
  links =
      let last = drafted c.relink.new.draft in
      let o = c.args.entry.offset in
      let s = c.args.spot.now.offset in
      let i = c.args.entry.number in
      let x = c.args.spot.now.name.now in
      let w = words_under c.args.draft.now in
      subst (λ (f : Inode). Relinks w last (f.base + o) ((inode (view w) c.args.spot.now.dir).base + s) i x) (sym c.requires.from)
      (subst (λ (f : Inode). Relinks w last (c.args.from.base + o) (f.base + s) i x) (sym c.requires.to)
      (subst (λ (img : List ℕ). Relinks img last (c.args.from.base + o) (c.args.spot.now.inode.base + s) i x) begun first))

  alike : MapsAlike 0 (words_under c.relink.new.draft) (drafted c.relink.new.draft)
  alike =
      let b = under_beside (words_under c.args.draft.now) (words_under c.relink.new.draft) c.relink.ensures.drafts.same in
      record {
        tables = tables_on c.relink.ensures.drafts c.requires.can.rest.tables;
        after = links.slot.tables;
        count = links.slot.head 2 (omega arith) ∙ links.clear.head 2 (omega arith) ∙ sym (beside_count b);
        same = λ n is. links.slot.cells 4 n (omega arith) ∙ links.clear.cells 4 n (omega arith) ∙ sym (cells_on c.relink.ensures.drafts 4 n);
      }

pub returns-clause-moves : goal.returns-clause-moves
returns-clause-moves g c =
    let mid = drafted c.relink.new.draft in
    let last = drafted c.raise_size.new.draft in
    let dir = c.args.spot.now.dir in
    let to = c.args.spot.now.offset + 256 in
    let M : Type 0 = MapsAlike 0 (words_under c.relink.new.draft) mid → RaisesSize mid last dir c.args.spot.now.inode.size to in
    ok_then M c.raise_size.result (λ raises. record {
      linked = mid;
      links = links g c;
      size = subst (λ (f : Inode). RaisesSize mid last dir f.size to) (sym c.requires.to) (raises (alike g c));
    }) c.raise_size.ensures.raises

pub returns-clause-named : goal.returns-clause-named
returns-clause-named g c =
    let P : Type 0 = (word : ℕ) → Named (pairs_of c.raise_size.new.draft) word → IsSizeWord (words_under c.relink.new.draft) c.args.spot.now.dir word ⊎ Named (pairs_of c.relink.new.draft) word in
    ok_then P c.raise_size.result (λ names word named. elim (names word named) [
      | inl size ↦ inr (subst (λ p. IsIn p 1 word) (place_on c.relink.ensures.drafts (64 * c.args.spot.now.dir + 8)) size)
      | inr before ↦ elim (c.in_ok-relink.ensures.named word before) [
        | inl link ↦ inl link
        | inr none ↦ absurd (subst (λ ps. Named ps word) c.requires.begun none)
      ]
    ]) c.raise_size.ensures.named

pub returns-clause-drafts : goal.returns-clause-drafts
returns-clause-drafts g c = drafts_then c.relink.ensures.drafts c.raise_size.ensures.drafts
