use Rattle.ct_script.proofs.Ends.{line_end, lines_end}
use Rattle.ct_script.proofs.laws.a_reply_is_one_line.Goals as goal

pub returns-clause-one : goal.returns-clause-one
returns-clause-one c = line_end

pub returns-clause-all : goal.returns-clause-all
returns-clause-all c = lines_end
