use Rattle.pm_trace.specs.Meaning.{history}
use Rattle.pm_trace.proofs.Chosen.{each_chosen, chosen_one}
use Rattle.pm_trace.proofs.trace.TracePm.crash.Goals as goal

pub returns-in-Ok-clause-every : goal.returns-in-Ok-clause-every
returns-in-Ok-clause-every c image allowed = each_chosen (history c.args.self.now) image allowed

pub returns-in-Err-clause-every : goal.returns-in-Err-clause-every
returns-in-Err-clause-every c image allowed = each_chosen (history c.args.self.now) image allowed

pub returns-in-Ok-clause-one : goal.returns-in-Ok-clause-one
returns-in-Ok-clause-one c a b first second = chosen_one c.args.choice.now (history c.args.self.now) a b first second

pub returns-in-Err-clause-one : goal.returns-in-Err-clause-one
returns-in-Err-clause-one c a b first second = chosen_one c.args.choice.now (history c.args.self.now) a b first second
