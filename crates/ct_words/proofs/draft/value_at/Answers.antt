use Rattle.std.proofs.Common.{◌*◌, ◌+◌, ◌%◌, ◌/◌, sym, ap, ◌∙◌}
use Rattle.ct_base.specs.Walk.{word}
use Rattle.ct_base.specs.Words.{place_at}
use Rattle.ct_image.proofs.Write.{word_at-there}
use Rattle.ct_record.specs.Seen.{drafted}
use Rattle.ct_words.proofs.Placed.{same_page}
use Rattle.ct_words.proofs.draft.value_at.Goals as goal

pub returns : goal.returns
returns g c =
    let after = drafted c.args.draft.now in
    let a = c.args.address in
    let page = same_page a c.requires.maps in
    c.value.ensures
    ∙ ap (word after) (c.place_of.ensures.value ∙ ap (λ d. place_at (g.D.Pm.words d) a) c.dev.ensures ∙ ap (λ p. p * 512 + a % 4096 / 8) (sym page))
    ∙ sym (word_at-there after a (λ z. c.requires.there (sym page ∙ z)))
