use Rattle.ct_script.proofs.Cuts.{lines_joined, items_joined, whole_ended}
use Rattle.ct_script.proofs.laws.scripts_are_joined.Goals as goal

pub returns-clause-lines : goal.returns-clause-lines
returns-clause-lines c = lines_joined

pub returns-clause-items : goal.returns-clause-items
returns-clause-items c = items_joined

pub returns-clause-whole : goal.returns-clause-whole
returns-clause-whole c = whole_ended
