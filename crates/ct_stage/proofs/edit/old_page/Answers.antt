use Rattle.std.proofs.Common.{◌+◌, ◌*◌, ◌/◌, ap, ◌∙◌, arith}
use Rattle.std.proofs.lemmas.List.{get_or-replicate}
use Rattle.ct_base.specs.Walk.{word, page_at}
use Rattle.ct_walk.proofs.Entries.{entries_stand, page_there, some_page-is}
use Rattle.ct_stage.proofs.Edits.{old_absent, old_there}
use Rattle.ct_stage.proofs.edit.old_page.Goals as goal

pub loaded_page-requires : goal.loaded_page-requires
loaded_page-requires g c =
    let img = g.D.Pm.words c.args.dev.now in
    let is = some_page-is c.in-Some.page (page_at img 4 (c.args.at / 4096)) c.in-Some.ensures in
    omega (arith, page_there img 4 (c.args.at / 4096) (entries_stand c.requires.tables) is.1, is.0, c.number.ensures)

pub returns-in-Some-clause-words : goal.returns-in-Some-clause-words
returns-in-Some-clause-words g c = λ k lt.
    let img = g.D.Pm.words c.args.dev.now in
    let read = c.loaded_page.ensures.words k lt in
    let place = ap (λ p. word img (p * 512 + k)) c.number.ensures in
    old_there img c.args.at c.in-Some.page k _ c.requires.aligned lt c.in-Some.ensures (omega (arith, read, g.met.D.Pm.words_fit c.args.dev.now (c.number.result * 512 + k))) (read ∙ place)

pub returns-in-None-clause-words : goal.returns-in-None-clause-words
returns-in-None-clause-words g c = λ k lt.
    old_absent (g.D.Pm.words c.args.dev.now) c.args.at k _ c.requires.aligned lt c.in-None.ensures (get_or-replicate 512 k 0 0 lt)
