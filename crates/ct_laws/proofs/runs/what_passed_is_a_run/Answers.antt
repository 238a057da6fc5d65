use Rattle.ct_laws.proofs.Passing.{passes_run}
use Rattle.ct_laws.proofs.runs.what_passed_is_a_run.Goals as goal

pub returns : goal.returns
returns g = λ c t left items replies from to. passes_run c t left items replies from to
