use Rattle.ct_grow.proofs.Accounted.{missing_grown}
use Rattle.ct_grow.proofs.growth_is_counted.Goals as goal

pub returns : goal.returns
returns c = λ old new f p ws moved larger all. missing_grown moved larger ws all
