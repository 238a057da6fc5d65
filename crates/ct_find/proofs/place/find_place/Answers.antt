use Rattle.std.proofs.Common.{Some, sym, ap, ◌∙◌}
use Rattle.ct_find.proofs.Finding.{dir_answer, dir_readable, entry_found, entry_stands, fault_answer, none_there, spot_found}
use Rattle.ct_find.proofs.place.find_place.Goals as goal

pub spot-requires : goal.spot-requires
spot-requires g c = dir_readable c.requires.rest c.in-Ok.ensures.splits c.in-Ok.ensures.live c.get-inode.ensures

pub returns-in-Err-clause-answer : goal.returns-in-Err-clause-answer
returns-in-Err-clause-answer g c t st = fault_answer c.in-Err.fault c.in-Err.ensures.splits t st ∙ ap (λ r. Some r) (sym c.refusal_of.ensures)

pub returns-in-Taken-clause-answer : goal.returns-in-Taken-clause-answer
returns-in-Taken-clause-answer g c = dir_answer c.requires.rest c.in-Ok.ensures.splits c.in-Ok.ensures.live c.get-inode.ensures

pub returns-in-Taken-clause-place : goal.returns-in-Taken-clause-place
returns-in-Taken-clause-place g c = entry_found c.requires.rest c.in-Ok.ensures.splits c.in-Ok.ensures.live c.get-inode.ensures c.in-Taken.found c.in-Taken.ensures

pub returns-in-Taken-clause-node : goal.returns-in-Taken-clause-node
returns-in-Taken-clause-node g c = entry_stands c.requires.rest (entry_found c.requires.rest c.in-Ok.ensures.splits c.in-Ok.ensures.live c.get-inode.ensures c.in-Taken.found c.in-Taken.ensures)

pub returns-in-Free-clause-answer : goal.returns-in-Free-clause-answer
returns-in-Free-clause-answer g c = dir_answer c.requires.rest c.in-Ok.ensures.splits c.in-Ok.ensures.live c.get-inode.ensures

pub returns-in-Free-clause-place : goal.returns-in-Free-clause-place
returns-in-Free-clause-place g c = spot_found c.requires.rest c.in-Ok.ensures.splits c.in-Ok.ensures.live c.get-inode.ensures c.in-Free.ensures.0 c.in-Free.offset c.in-Free.ensures.1

pub returns-in-Free-clause-node : goal.returns-in-Free-clause-node
returns-in-Free-clause-node g c = none_there c.requires.rest c.in-Ok.ensures.splits c.in-Ok.ensures.live c.get-inode.ensures c.in-Free.ensures.0
