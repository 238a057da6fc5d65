use Rattle.ct_laws.proofs.Once.{are_blocks, cover_once}
use Rattle.ct_laws.proofs.cover.pieces_cover_each_offset_once.Goals as goal

pub returns-clause-blocks : goal.returns-clause-blocks
returns-clause-blocks c = are_blocks

pub returns-clause-once : goal.returns-clause-once
returns-clause-once c = cover_once
