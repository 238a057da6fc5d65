use Rattle.std.proofs.Common.{◌∙◌, string_bytes}
use Rattle.ct_tell.proofs.LookWords.{of_two}
use Rattle.ct_tell.proofs.look.look_of.Goals as goal

pub returns-in-len2 : goal.returns-in-len2
returns-in-len2 c =
    c.image_look.ensures ∙ of_two (λ w. string_bytes w) c.args.words.now c.word-item-then-words-lt3-2.result c.in-len2.len_at_least c.in-len2.len_below c.word-item-then-words-lt3-2.is
