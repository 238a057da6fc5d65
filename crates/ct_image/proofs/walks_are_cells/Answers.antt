use Rattle.ct_image.proofs.Steps.{walk-cell}
use Rattle.ct_image.proofs.walks_are_cells.Goals as goal

pub returns : goal.returns
returns c = walk-cell
