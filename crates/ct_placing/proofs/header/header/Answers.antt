use Rattle.std.proofs.Common.{sym, ap, ◌∙◌, arith}
use Rattle.ct_placing.specs.Heading.{word_of}
use Rattle.ct_placing.proofs.Addresses.{shown_here}
use Rattle.ct_placing.proofs.header.header.Goals as goal

pub returns : goal.returns
returns g c =
    let w = g.D.Pm.words c.args.dev.now in
    let a = c.header_address.result in
    c.load_word.ensures ∙ sym (shown_here w a c.header_address.ensures.aligned (omega (arith, c.header_address.ensures.last))) ∙ ap (word_of w) c.header_address.ensures.value
