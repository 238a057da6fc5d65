use Rattle.ct_image.proofs.Partner.{partner-twice}
use Rattle.ct_image.proofs.exchanges_undo_themselves.Goals as goal

pub returns : goal.returns
returns c = partner-twice
