use Rattle.ct_pm.proofs.Allowed.{allowed_reads}
use Rattle.ct_pm.proofs.laws.what_reads_is_allowed.Goals as goal

pub returns : goal.returns
returns c = allowed_reads
