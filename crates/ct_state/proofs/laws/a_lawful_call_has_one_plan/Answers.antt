use Rattle.ct_state.proofs.Plans.{plan_once, plan_there}
use Rattle.ct_state.proofs.laws.a_lawful_call_has_one_plan.Goals as goal

pub returns-clause-there : goal.returns-clause-there
returns-clause-there c = λ img t op sound is st. plan_there img t sound is st op

pub returns-clause-once : goal.returns-clause-once
returns-clause-once c = λ img op plan other sound. plan_once img sound op plan other
