use Rattle.ct_tree.proofs.Paths.{parent_texts}
use Rattle.ct_tree.proofs.path.parent.Goals as goal

pub returns : goal.returns
returns c = parent_texts _ _ _ c.in-Some.ensures.cases.0
