use Rattle.ct_tree.proofs.Joined.{runs_joined, runs_split}
use Rattle.ct_tree.proofs.laws.runs_are_joined.Goals as goal

pub returns-clause-joined : goal.returns-clause-joined
returns-clause-joined c = runs_joined

pub returns-clause-split : goal.returns-clause-split
returns-clause-split c = runs_split
