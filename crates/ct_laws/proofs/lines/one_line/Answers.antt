use Rattle.ct_laws.proofs.Shown.{one_left, one_may}
use Rattle.ct_laws.proofs.lines.one_line.Goals as goal

pub returns : goal.returns
returns c = λ a b. (one_left a b, one_may a b)
