use Rattle.std.proofs.Common.{inl, inr}
use Rattle.ct_image.proofs.Beside.{beside_tables}
use Rattle.ct_record.specs.Seen.{drafted, pairs_of, words_under}
use Rattle.ct_record.proofs.Chain.{apart_of, drafts_then}
use Rattle.ct_record.proofs.Under.{under_beside}
use Rattle.ct_grow.proofs.Placed.{drafted_superblock, old_beside}
use Rattle.ct_grow.proofs.Spared.{spare_back}
use Rattle.ct_grow.proofs.draft.move_object.Goals as goal

pub move_pages-requires-clause-tables : goal.move_pages-requires-clause-tables
move_pages-requires-clause-tables g c = beside_tables (under_beside (words_under c.args.draft.now) (words_under c.move_places.new.draft) c.move_places.ensures.drafts.same) c.requires.tables

pub move_pages-requires-clause-has : goal.move_pages-requires-clause-has
move_pages-requires-clause-has g c some = old_beside (under_beside (words_under c.args.draft.now) (words_under c.move_places.new.draft) c.move_places.ensures.drafts.same) (c.requires.can.has some)

pub returns-in_err-move_pages-clause-drafts : goal.returns-in_err-move_pages-clause-drafts
returns-in_err-move_pages-clause-drafts g c = drafts_then c.move_places.ensures.drafts c.move_pages.ensures.drafts

pub returns-clause-moves : goal.returns-clause-moves
returns-clause-moves g c =
    let drafts = drafts_then c.move_places.ensures.drafts c.move_pages.ensures.drafts in
    let last = c.move_pages.new.draft in
    record {
      middle = drafted c.move_places.new.draft;
      places = c.in_ok-move_places.ensures.places;
      exchanged = c.in_ok-move_pages.ensures.exchanged;
      superblock = drafted_superblock (pairs_of last) (words_under c.args.draft.now) (words_under last) (apart_of last) drafts.same;
    }

pub returns-clause-drafts : goal.returns-clause-drafts
returns-clause-drafts g c = drafts_then c.move_places.ensures.drafts c.move_pages.ensures.drafts

pub returns-clause-spare : goal.returns-clause-spare
returns-clause-spare g c w named = elim (c.in_ok-move_pages.ensures.spare w named) [
  | inl before ↦ c.in_ok-move_places.ensures.spare w before
  | inr here ↦ spare_back (under_beside (words_under c.args.draft.now) (words_under c.move_places.new.draft) c.move_places.ensures.drafts.same) w here
]
