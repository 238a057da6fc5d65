use Rattle.msa.proofs.Asking.{lands}
use Rattle.msa.proofs.laws.a_medium_lands_before_a_call_or_after_it.Goals as goal

pub returns : goal.returns
returns c = lands
