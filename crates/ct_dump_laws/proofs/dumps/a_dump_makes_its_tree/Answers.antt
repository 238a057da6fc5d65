use Rattle.ct_dump_laws.proofs.Follows.{dump_made, dump_done, dump_once, dump_runs}
use Rattle.ct_dump_laws.proofs.dumps.a_dump_makes_its_tree.Goals as goal

pub returns-clause-made : goal.returns-clause-made
returns-clause-made c = dump_made

pub returns-clause-only : goal.returns-clause-only
returns-clause-only c = dump_done

pub returns-clause-again : goal.returns-clause-again
returns-clause-again c = dump_once

pub returns-clause-runs : goal.returns-clause-runs
returns-clause-runs c = dump_runs
