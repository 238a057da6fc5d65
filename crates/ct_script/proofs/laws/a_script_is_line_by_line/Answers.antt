use Rattle.ct_script.proofs.Cuts.{items_last, items_next, long_items, whole_last, whole_next}
use Rattle.ct_script.proofs.laws.a_script_is_line_by_line.Goals as goal

pub returns-clause-next : goal.returns-clause-next
returns-clause-next c = items_next

pub returns-clause-ended : goal.returns-clause-ended
returns-clause-ended c = whole_next

pub returns-clause-last : goal.returns-clause-last
returns-clause-last c = items_last

pub returns-clause-none : goal.returns-clause-none
returns-clause-none c = whole_last

pub returns-clause-long : goal.returns-clause-long
returns-clause-long c = long_items
