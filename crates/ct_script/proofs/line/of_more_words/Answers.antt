use Rattle.ct_script.proofs.Words.{too_many}
use Rattle.ct_script.proofs.line.of_more_words.Goals as goal

pub returns-in_default : goal.returns-in_default
returns-in_default c = too_many c.args.verb c.args.path.now c.args.second.now c.args.third.now c.args.rest.now c.in_default.not-Fill c.in_default.not-Exchange
