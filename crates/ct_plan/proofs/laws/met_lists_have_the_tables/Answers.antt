use Rattle.ct_plan.proofs.There.{few_both_there, few_write_there}
use Rattle.ct_plan.proofs.laws.met_lists_have_the_tables.Goals as goal

pub returns : goal.returns
returns c = record { exchange = few_both_there; write = few_write_there }
