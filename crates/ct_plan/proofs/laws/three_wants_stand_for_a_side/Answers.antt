use Rattle.ct_plan.proofs.Short.{few_same}
use Rattle.ct_plan.proofs.laws.three_wants_stand_for_a_side.Goals as goal

pub returns : goal.returns
returns c = few_same
