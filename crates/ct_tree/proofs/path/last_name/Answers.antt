use Rattle.ct_tree.proofs.Paths.{last_texts}
use Rattle.ct_tree.proofs.path.last_name.Goals as goal

pub returns : goal.returns
returns c = last_texts _ _ _ c.in-Some.ensures.cases.0
