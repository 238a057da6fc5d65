use Rattle.ct_image.proofs.Unreached.{keeps_unreached}
use Rattle.ct_image.proofs.unreached_pages_are_free.Goals as goal

pub returns : goal.returns
returns c = λ old new page n u. keeps_unreached u n
