use Rattle.ct_tree.proofs.Undone.{write_read, others_stay}
use Rattle.ct_tree.proofs.laws.a_write_is_read_back.Goals as goal

pub returns-clause-same : goal.returns-clause-same
returns-clause-same c = write_read

pub returns-clause-others : goal.returns-clause-others
returns-clause-others c = λ t path other off bytes had tree passes. others_stay t path off bytes passes other had tree
