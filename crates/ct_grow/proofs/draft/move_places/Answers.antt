use Rattle.std.proofs.Common.{◌≡◌, ◌+◌, ◌*◌, ◌/◌, [], ◌∷◌, ℕ, ap, sym, ◌∙◌, arith}
use Rattle.ct_base.specs.Walk.{page_at}
use Rattle.ct_image.proofs.Beside.{beside_cells, beside_tables}
use Rattle.ct_record.specs.Seen.{pairs_of, words_under}
use Rattle.ct_record.proofs.Chain.{drafts_then}
use Rattle.ct_record.proofs.Under.{under_beside}
use Rattle.ct_grow.proofs.Placed.{Wrote, wrote_places, wrote_leave, wrote_spare}
use Rattle.ct_grow.proofs.draft.move_places.Given.{Over}
use Rattle.ct_grow.proofs.draft.move_places.Goals as goal

pub put_words-requires-clause-tables : goal.put_words-requires-clause-tables
put_words-requires-clause-tables g c = beside_tables (under_beside (words_under c.args.draft.now) (words_under c.move_headers.new.draft) c.move_headers.ensures.drafts.same) c.requires.tables

pub put_words-requires-clause-there : goal.put_words-requires-clause-there
put_words-requires-clause-there g c none =
    let beside = under_beside (words_under c.args.draft.now) (words_under c.move_headers.new.draft) c.move_headers.ensures.drafts.same in
    let page : (c.get-2.result + 16) / 4096 ≡ 64 * c.args.number / 4096 = omega (arith, c.get-2.ensures.value, c.place.ensures) in
    c.requires.can.inode_there (sym (beside_cells beside 4 (64 * c.args.number / 4096)) ∙ sym (ap (page_at (words_under c.move_headers.new.draft) 4) page) ∙ none)

pub returns-in_err-put_words-clause-drafts : goal.returns-in_err-put_words-clause-drafts
returns-in_err-put_words-clause-drafts g c = drafts_then c.move_headers.ensures.drafts c.put_words.ensures.drafts

wrote : (g : Over) (c : goal.In_ok-put_words g)
    → Wrote (words_under c.args.draft.now) (words_under c.move_headers.new.draft) (words_under c.put_words.new.draft) (pairs_of c.move_headers.new.draft) (pairs_of c.put_words.new.draft) c.args.number c.args.old (record { base = c.args.base; level = c.args.level })
wrote g c =
    let at : c.get-2.result + 16 ≡ 64 * c.args.number + 16 = omega (arith, c.get-2.ensures.value, c.place.ensures) in
    let values : c.get.result ∷ c.args.level ∷ [] ≡ c.args.base ∷ c.args.level ∷ [] = ap (λ (b : ℕ). b ∷ c.args.level ∷ []) c.get.ensures.value in
    record {
      tables = c.requires.tables;
      first = c.move_headers.ensures.drafts.same;
      second = c.put_words.ensures.drafts.same;
      can = c.requires.can;
      named = c.in_ok-move_headers.ensures.named;
      stand = c.in_ok-move_headers.ensures.stand;
      at = c.get-2.result + 16;
      values = c.get.result ∷ c.args.level ∷ [];
      at_is = at;
      values_are = values;
      added = c.in_ok-put_words.ensures.added;
      rewrites = c.in_ok-put_words.ensures.rewrites (c.in_ok-move_headers.ensures.maps ((c.get-2.result + 16) / 549755813888));
    }

pub returns-clause-places : goal.returns-clause-places
returns-clause-places g c = wrote_places (wrote g c)

pub returns-clause-leave : goal.returns-clause-leave
returns-clause-leave g c = wrote_leave (wrote g c)

pub returns-clause-drafts : goal.returns-clause-drafts
returns-clause-drafts g c = drafts_then c.move_headers.ensures.drafts c.put_words.ensures.drafts

pub returns-clause-spare : goal.returns-clause-spare
returns-clause-spare g c = wrote_spare (wrote g c)
