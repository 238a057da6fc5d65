use Rattle.ct_laws.proofs.Shown.{two_left, two_may}
use Rattle.ct_laws.proofs.lines.two_lines.Goals as goal

pub returns : goal.returns
returns c = λ a b. (two_left a b, two_may a b)
