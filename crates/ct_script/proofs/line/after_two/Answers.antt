use Rattle.std.proofs.Common.{arith}
use Rattle.ct_script.proofs.Words.{last_length}
use Rattle.ct_script.proofs.line.after_two.Goals as goal

pub of_three_words-requires : goal.of_three_words-requires
of_three_words-requires c = let short = last_length c.args.rest.now c.first_part.result.0.now c.first_part.result.1 c.first_part.ensures c.in-None.is in let room = c.requires in omega (arith, short, room)
