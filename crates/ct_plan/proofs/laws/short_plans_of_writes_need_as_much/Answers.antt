use Rattle.ct_plan.proofs.Plans.{few_write_missing}
use Rattle.ct_plan.proofs.laws.short_plans_of_writes_need_as_much.Goals as goal

pub returns : goal.returns
returns c = few_write_missing
