use Rattle.std.proofs.Common.{◌≡◌, ap, ◌∙◌, arith}
use Rattle.ct_base.specs.Words.{word_at}
use Rattle.ct_image.proofs.Write.{word_at-walk}
use Rattle.ct_words.proofs.Shown.{shown-fits}
use Rattle.ct_words.proofs.load.load_word.Goals as goal

pub returns : goal.returns
returns g c =
    let img = g.D.Pm.words c.args.dev.now in
    let v_is : c.in-Some.v ≡ c.args.address = c.in-Some.ensures.value in
    let is : c.load_at.result ≡ word_at img c.args.address =
    c.load_at.ensures ∙ word_at-walk img c.in-Some.v (let high = c.requires.high in omega arith) ∙ ap (word_at img) v_is in
    shown-fits img c.args.address c.load_at.result c.load_at.type_inv is
