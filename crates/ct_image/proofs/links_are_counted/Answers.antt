use Rattle.ct_image.proofs.MissingLess.{missing_link}
use Rattle.ct_image.proofs.links_are_counted.Goals as goal

pub returns : goal.returns
returns c = λ old new d x i page wants l. missing_link l wants
