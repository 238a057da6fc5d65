use Rattle.std.proofs.Common.{◌∙◌, string_bytes}
use Rattle.ct_run.proofs.Commands.{of_two}
use Rattle.ct_run.proofs.command.command_of.Goals as goal

pub returns-in-len2 : goal.returns-in-len2
returns-in-len2 c = c.image_command.ensures ∙ of_two (λ w. string_bytes w) c.args.words.now c.word-item-then-words-lt3.result c.in-len2.len_at_least c.in-len2.len_below c.word-item-then-words-lt3.is
