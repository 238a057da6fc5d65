use Rattle.std.proofs.Common.{◌≡◌, length, ap, ◌∙◌, arith}
use Rattle.ct_base.specs.Exchange.{entry_at}
use Rattle.ct_base.specs.Walk.{page_count}
use Rattle.ct_record.specs.Seen.{words_under}
use Rattle.ct_record.proofs.Chain.{drafts_then}
use Rattle.ct_swap.proofs.Goes.{entry_there}
use Rattle.ct_swap.proofs.swap.swap_piece.Goals as goal

pub load-first_value-requires : goal.load-first_value-requires
load-first_value-requires g c =
    let W = words_under c.args.draft.now in
    let at : c.entry_word-first.result ≡ entry_at W c.args.p c.args.height = c.entry_word-first.ensures ∙ ap (λ d. entry_at (g.D.Pm.words d) c.args.p c.args.height) c.dev.ensures in
    omega (arith, entry_there W c.args.p c.args.height c.requires.tables c.requires.first_there, at, c.requires.tables.there, ap (λ d. length (g.D.Pm.words d)) c.dev-3.ensures)

pub load-second_value-requires : goal.load-second_value-requires
load-second_value-requires g c =
    let W = words_under c.args.draft.now in
    let at : c.entry_word-second.result ≡ entry_at W c.args.q c.args.height = c.entry_word-second.ensures ∙ ap (λ d. entry_at (g.D.Pm.words d) c.args.q c.args.height) c.dev-2.ensures in
    omega (arith, entry_there W c.args.q c.args.height c.requires.tables c.requires.second_there, at, c.requires.tables.there, ap (λ d. length (g.D.Pm.words d)) c.dev-4.ensures)

pub add-requires-clause-target : goal.add-requires-clause-target
add-requires-clause-target g c =
    let W = words_under c.args.draft.now in
    let at : c.entry_word-first.result ≡ entry_at W c.args.p c.args.height = c.entry_word-first.ensures ∙ ap (λ d. entry_at (g.D.Pm.words d) c.args.p c.args.height) c.dev.ensures in
    let there = entry_there W c.args.p c.args.height c.requires.tables c.requires.first_there in
    (omega (arith, there.0, at), omega (arith, there.1, at))

pub add-requires-2-clause-target : goal.add-requires-2-clause-target
add-requires-2-clause-target g c =
    let W = words_under c.args.draft.now in
    let at : c.entry_word-second.result ≡ entry_at W c.args.q c.args.height = c.entry_word-second.ensures ∙ ap (λ d. entry_at (g.D.Pm.words d) c.args.q c.args.height) c.dev-2.ensures in
    let there = entry_there W c.args.q c.args.height c.requires.tables c.requires.second_there in
    let count : page_count (words_under c.add.new.self) ≡ page_count W = c.add.ensures.drafts.same.others 2 (λ is. omega (arith, is.0)) in
    (omega (arith, there.0, at), omega (arith, there.1, at, count))

pub returns-clause-drafts : goal.returns-clause-drafts
returns-clause-drafts g c = drafts_then c.add.ensures.drafts c.add-2.ensures.drafts
