use Rattle.ct_tree.proofs.Steps.{step_rooted}
use Rattle.ct_tree.proofs.laws.a_step_leaves_a_tree.Goals as goal

pub returns-clause-tree : goal.returns-clause-tree
returns-clause-tree c = λ t op tree dir. (step_rooted t op (record { tree = tree; dir = dir })).tree

pub returns-clause-root : goal.returns-clause-root
returns-clause-root c = λ t op tree dir. (step_rooted t op (record { tree = tree; dir = dir })).dir
