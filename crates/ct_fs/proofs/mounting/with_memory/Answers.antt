use Rattle.ct_fs.proofs.Ready.{ready_dev}
use Rattle.ct_fs.proofs.mounting.with_memory.Goals as goal

pub returns-in-Ok-clause-dev : goal.returns-in-Ok-clause-dev
returns-in-Ok-clause-dev g c = ready_dev c.of.result c.args.mounted c.of.ensures
