use Rattle.std.proofs.Common.{◌+◌, ◌*◌, ◌/◌, ◌%◌, ap, ◌∙◌, arith}
use Rattle.ct_base.specs.Walk.{page_at}
use Rattle.ct_words.proofs.Placed.{walk_some}
use Rattle.allocator_tests.proofs.Devices.{stored}
use Rattle.allocator_tests.proofs.volume.put_word.Goals as goal

pub commit-requires-clause-within : goal.commit-requires-clause-within
commit-requires-clause-within g c =
    let s = walk_some (g.D.Pm.words c.args.dev.now) c.in-Some.v c.in-Some-walk.page (let high = c.requires.high in let is = c.in-Some.ensures.value in omega arith) c.requires.tables c.in-Some-walk.ensures.exact in
    omega (arith, c.number.ensures, s.2, c.requires.tables.there)

pub returns-clause-words : goal.returns-clause-words
returns-clause-words g c =
    let w = g.D.Pm.words c.args.dev.now in
    let v_is = c.in-Some.ensures.value in
    let s = walk_some w c.in-Some.v c.in-Some-walk.page (let high = c.requires.high in omega arith) c.requires.tables c.in-Some-walk.ensures.exact in
    stored w (g.D.Pm.words c.commit.new.dev) (c.args.address / 4096) (c.args.address % 4096 / 8) c.args.value (c.number.result * 512 + c.args.address % 4096 / 8)
    c.requires.tables c.requires.there (omega arith)
    (ap (λ p. p * 512 + c.args.address % 4096 / 8) (c.number.ensures ∙ s.0 ∙ ap (λ v. page_at w 4 (v / 4096)) v_is)) c.in_ok-commit.ensures.words
