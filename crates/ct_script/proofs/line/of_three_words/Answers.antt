use Rattle.ct_script.proofs.Words.{no_call_of_three}
use Rattle.ct_script.proofs.line.of_three_words.Goals as goal

pub returns-in_default : goal.returns-in_default
returns-in_default c = no_call_of_three c.args.verb c.args.path.now c.args.second.now c.args.third.now c.in_default.not-Write c.in_default.not-Read
