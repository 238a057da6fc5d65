use Rattle.ct_script.proofs.Words.{no_call_of_two}
use Rattle.ct_script.proofs.line.of_two_words.Goals as goal

pub returns-in_default : goal.returns-in_default
returns-in_default c = no_call_of_two c.args.verb c.args.path.now c.args.word.now c.in_default.not-Append c.in_default.not-Truncate c.in_default.not-Rename
