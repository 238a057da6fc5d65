use Rattle.ct_laws.proofs.Shown.{flush_left, flush_may}
use Rattle.ct_laws.proofs.lines.a_flush_alone.Goals as goal

pub returns : goal.returns
returns c = λ a. (flush_left a, flush_may a)
