use Rattle.ct_laws.proofs.Taken.{crowded_all}
use Rattle.ct_laws.proofs.enough.few_nodes_have_partitions.Goals as goal

pub returns : goal.returns
returns g = λ c t left items replies from to. crowded_all c t left items replies from to
