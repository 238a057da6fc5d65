use Rattle.std.proofs.Common.{◌≡◌, ◌+◌, ◌*◌, ◌/◌, ◌%◌, ◌^◌, ap, sym, ◌∙◌, arith, inl, inr}
use Rattle.ct_base.specs.Pieces.{pieces}
use Rattle.ct_base.specs.Walk.{page_at}
use Rattle.ct_image.proofs.Beside.{beside_cells, beside_tables}
use Rattle.ct_record.specs.Seen.{pairs_of, words_under}
use Rattle.ct_record.proofs.Chain.{apart_of, drafts_then}
use Rattle.ct_grow.proofs.Placed.{drafted_superblock}
use Rattle.ct_write.proofs.Sizing.{bare_back, exchanged_word, recorded_by, slot_maps, swaps_bare}
use Rattle.ct_write.proofs.Settling.{beside_of, from_start}
use Rattle.ct_write.proofs.Spots.{pieces_some}
use Rattle.ct_write.proofs.record.draft_write.Goals as goal

pub put_size-requires-clause-tables : goal.put_size-requires-clause-tables
put_size-requires-clause-tables g c = beside_tables (beside_of c.pswap.ensures.drafts) c.requires.tables

pub put_size-requires-clause-maps : goal.put_size-requires-clause-maps
put_size-requires-clause-maps g c = slot_maps c.requires.tables (beside_of c.pswap.ensures.drafts) (from_start c.args.draft.now c.pswap.new.draft c.requires.none c.in_ok-pswap.ensures.exchanged) (omega (arith, c.requires.can.first_from)) c.requires.can.second_from

pub put_size-requires-clause-there : goal.put_size-requires-clause-there
put_size-requires-clause-there g c none = c.requires.can.there (sym (beside_cells (beside_of c.pswap.ensures.drafts) 4 (64 * c.args.inode / 4096)) ∙ none)

pub put_size-requires-clause-was : goal.put_size-requires-clause-was
put_size-requires-clause-was g c =
    let few = c.requires.can.to in
    let low = c.requires.can.first_from in
    let high = c.requires.can.second_from in
    let page : (64 * c.args.inode + 8) / 4096 ≡ 64 * c.args.inode / 4096 = omega arith in
    ap (λ x. x % 2 ^ 64) (exchanged_word (from_start c.args.draft.now c.pswap.new.draft c.requires.none c.in_ok-pswap.ensures.exchanged) (64 * c.args.inode + 8) (record { first = λ le. absurd (omega (arith, few, low, le)); second = λ le. absurd (omega (arith, few, high, le)) })
    (λ none. c.requires.can.there (ap (page_at (words_under c.args.draft.now) 4) (sym page) ∙ none))) ∙ c.requires.can.was

pub returns-in_err-put_size-clause-drafts : goal.returns-in_err-put_size-clause-drafts
returns-in_err-put_size-clause-drafts g c = drafts_then c.pswap.ensures.drafts c.put_size.ensures.drafts

pub returns-clause-recorded : goal.returns-clause-recorded
returns-clause-recorded g c =
    recorded_by (from_start c.args.draft.now c.pswap.new.draft c.requires.none c.in_ok-pswap.ensures.exchanged) (drafted_superblock (pairs_of c.pswap.new.draft) (words_under c.args.draft.now) (words_under c.pswap.new.draft) (apart_of c.pswap.new.draft) c.pswap.ensures.drafts.same) c.in_ok-put_size.ensures.sized

pub returns-clause-bare : goal.returns-clause-bare
returns-clause-bare g c w named = elim (c.in_ok-put_size.ensures.bare w named) [
  | inl before ↦ swaps_bare (words_under c.args.draft.now) c.args.a c.args.b (pieces c.args.a c.args.b c.args.n) (pairs_of c.args.draft.now) (pairs_of c.pswap.new.draft) c.requires.tables c.requires.can.tables c.requires.none c.in_ok-pswap.ensures.pairs w before
  | inr here ↦ bare_back (beside_of c.pswap.ensures.drafts) w here
]

pub returns-clause-some : goal.returns-clause-some
returns-clause-some g c = omega (arith, c.in_ok-put_size.ensures.more, c.in_ok-pswap.ensures.count, pieces_some c.args.a c.args.b c.args.n c.requires.can.some)

pub returns-clause-few : goal.returns-clause-few
returns-clause-few g c = omega (arith, c.in_ok-put_size.ensures.count, c.in_ok-pswap.ensures.count, c.requires.can.few, c.requires.count)

pub returns-clause-drafts : goal.returns-clause-drafts
returns-clause-drafts g c = drafts_then c.pswap.ensures.drafts c.put_size.ensures.drafts
