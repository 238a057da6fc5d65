use Rattle.std.proofs.Common.{◌≡◌, ◌+◌, ◌-◌, ◌/◌, ◌^◌, sym, ◌∙◌, arith}
use Rattle.ct_base.specs.Pieces.{pieces}
use Rattle.ct_pieces.proofs.Steps.{width_pos}
use Rattle.ct_image.proofs.Beside.{beside_cells, beside_tables}
use Rattle.ct_record.specs.Seen.{count_of, pairs_of, words_under}
use Rattle.ct_record.proofs.Chain.{drafts_here, drafts_then}
use Rattle.ct_record.proofs.Under.{under_beside}
use Rattle.ct_record.proofs.Whole.{apart_at}
use Rattle.ct_swap.proofs.Pairing.{swapping_start, swapping_head, swapping_step, swapping_end, pswap_exchanged, pswap_distinct}
use Rattle.ct_swap.proofs.swap.pswap.Goals as goal

pub loop-piece-init : goal.loop-piece-init
loop-piece-init g c =
    let draft = c.args.draft.now in
    let all : c.into_iter-piece-iterator.result ≡ pieces c.args.a c.args.b c.args.n = c.into_iter-piece-iterator.ensures.into_iter_gives ∙ c.new-piece-items.ensures in
    record {
      swapping = swapping_start (words_under draft) (pairs_of draft) c.args.a c.args.b c.args.n (count_of draft) c.into_iter-piece-iterator.result all c.requires.there;
      drafts = drafts_here draft;
      faults = omega arith;
    }

pub overflow_add-a : goal.overflow_add-a
overflow_add-a g c =
    let head = swapping_head c.in-Some.piece.offset c.in-Some.piece.height c.next.new.self c.loop-piece.invariant.swapping c.in-Some.ensures.steps in
    omega (arith, head.inside, width_pos c.in-Some.piece.height, c.requires.first)

pub overflow_add-b : goal.overflow_add-b
overflow_add-b g c =
    let head = swapping_head c.in-Some.piece.offset c.in-Some.piece.height c.next.new.self c.loop-piece.invariant.swapping c.in-Some.ensures.steps in
    omega (arith, head.inside, width_pos c.in-Some.piece.height, c.requires.second)

pub swap_piece-requires-clause-tables : goal.swap_piece-requires-clause-tables
swap_piece-requires-clause-tables g c = beside_tables (under_beside (words_under c.args.draft.now) (words_under c.loop-piece.draft) c.loop-piece.invariant.drafts.same) c.requires.tables

pub swap_piece-requires-clause-height : goal.swap_piece-requires-clause-height
swap_piece-requires-clause-height g c =
    (swapping_head c.in-Some.piece.offset c.in-Some.piece.height c.next.new.self c.loop-piece.invariant.swapping c.in-Some.ensures.steps).low

pub swap_piece-requires-clause-first : goal.swap_piece-requires-clause-first
swap_piece-requires-clause-first g c =
    let head = swapping_head c.in-Some.piece.offset c.in-Some.piece.height c.next.new.self c.loop-piece.invariant.swapping c.in-Some.ensures.steps in
    omega (arith, head.inside, width_pos c.in-Some.piece.height, c.requires.first)

pub swap_piece-requires-clause-second : goal.swap_piece-requires-clause-second
swap_piece-requires-clause-second g c =
    let head = swapping_head c.in-Some.piece.offset c.in-Some.piece.height c.next.new.self c.loop-piece.invariant.swapping c.in-Some.ensures.steps in
    omega (arith, head.inside, width_pos c.in-Some.piece.height, c.requires.second)

pub swap_piece-requires-clause-first_there : goal.swap_piece-requires-clause-first_there
swap_piece-requires-clause-first_there g c none =
    let head = swapping_head c.in-Some.piece.offset c.in-Some.piece.height c.next.new.self c.loop-piece.invariant.swapping c.in-Some.ensures.steps in
    let beside = under_beside (words_under c.args.draft.now) (words_under c.loop-piece.draft) c.loop-piece.invariant.drafts.same in
    head.first_there (sym (beside_cells beside (3 - c.in-Some.piece.height) ((c.args.a + c.in-Some.piece.offset) / 512 ^ (c.in-Some.piece.height + 1))) ∙ none)

pub swap_piece-requires-clause-second_there : goal.swap_piece-requires-clause-second_there
swap_piece-requires-clause-second_there g c none =
    let head = swapping_head c.in-Some.piece.offset c.in-Some.piece.height c.next.new.self c.loop-piece.invariant.swapping c.in-Some.ensures.steps in
    let beside = under_beside (words_under c.args.draft.now) (words_under c.loop-piece.draft) c.loop-piece.invariant.drafts.same in
    head.second_there (sym (beside_cells beside (3 - c.in-Some.piece.height) ((c.args.b + c.in-Some.piece.offset) / 512 ^ (c.in-Some.piece.height + 1))) ∙ none)

pub loop-piece-preserved : goal.loop-piece-preserved
loop-piece-preserved g c =
    let so_far = c.loop-piece.invariant in
    let beside = under_beside (words_under c.args.draft.now) (words_under c.loop-piece.draft) so_far.drafts.same in
    record {
      swapping = swapping_step c.in-Some.piece.offset c.in-Some.piece.height c.next.new.self so_far.swapping c.in-Some.ensures.steps beside c.in_ok-swap_piece.ensures.added c.in_ok-swap_piece.ensures.count;
      drafts = drafts_then so_far.drafts c.swap_piece.ensures.drafts;
      faults = omega (arith, so_far.faults, c.swap_piece.ensures.cause.later);
    }

pub returns-in_err-swap_piece-clause-drafts : goal.returns-in_err-swap_piece-clause-drafts
returns-in_err-swap_piece-clause-drafts g c = drafts_then c.loop-piece.invariant.drafts c.swap_piece.ensures.drafts

pub returns-clause-exchanged : goal.returns-clause-exchanged
returns-clause-exchanged g c =
    let draft = c.args.draft.now in
    pswap_exchanged (words_under draft) (words_under c.loop-piece.draft) (pairs_of draft) (pairs_of c.loop-piece.draft) c.args.a c.args.b c.args.n c.requires.tables c.requires.free
    (apart_at draft.count (words_under draft) draft.targets) c.requires.apart c.requires.there c.loop-piece.invariant.drafts.same
    (swapping_end c.loop-piece.invariant.swapping c.in-None.ensures.steps.0).0

pub returns-clause-pairs : goal.returns-clause-pairs
returns-clause-pairs g c = (swapping_end c.loop-piece.invariant.swapping c.in-None.ensures.steps.0).0

pub returns-clause-count : goal.returns-clause-count
returns-clause-count g c = (swapping_end c.loop-piece.invariant.swapping c.in-None.ensures.steps.0).1

pub returns-clause-distinct : goal.returns-clause-distinct
returns-clause-distinct g c = pswap_distinct (words_under c.args.draft.now) c.args.a c.args.b c.args.n c.requires.tables c.requires.apart c.requires.there
