use Rattle.ct_dump_laws.proofs.Landed.{lands_bytes, lands_limit, lands_dumpable, lands_runs}
use Rattle.ct_dump_laws.proofs.images.an_image_holds_bytes.Goals as goal

pub returns-clause-bytes : goal.returns-clause-bytes
returns-clause-bytes c = lands_bytes

pub returns-clause-sizes : goal.returns-clause-sizes
returns-clause-sizes c = lands_limit

pub returns-clause-dumpable : goal.returns-clause-dumpable
returns-clause-dumpable c = lands_dumpable

pub returns-clause-runs : goal.returns-clause-runs
returns-clause-runs c = lands_runs
