use Rattle.ct_base.specs.Settled.{IsShut}
use Rattle.ct_record.specs.Seen.{device_behind}
use Rattle.ct_record.proofs.Ended.{ok_both, ok_then}
use Rattle.ct_rename.specs.Moves.{Moved}
use Rattle.ct_rename.proofs.Ending.{moved_part, moved_rest}
use Rattle.ct_rename.proofs.Moving.{files_are, keeps}
use Rattle.ct_rename.proofs.carry.move_at.Given.{Over}
use Rattle.ct_rename.proofs.carry.move_at.Goals as goal

module _ (g : Over) (c : goal.After-move_now g) where
  abbrev M : Type 0
  M = Moved (g.D.Pm.words c.args.dev) (g.D.Pm.words (device_behind c.move_now.result)) c.args.entry.dir c.args.entry.offset c.args.dir c.args.offset c.args.entry.number c.args.name.now

  abbrev S : Type 0
  S = IsShut (g.D.Pm.words (device_behind c.move_now.result))

pub returns-clause-objects : goal.returns-clause-objects
returns-clause-objects g c = ok_then (M g c) c.move_now.result (λ m. files_are m) c.move_now.ensures.moves

pub returns-clause-rest : goal.returns-clause-rest
returns-clause-rest g c = ok_then (M g c × S g c) c.move_now.result (λ has. moved_rest has.0 c.requires.tree has.1) (ok_both (M g c) (S g c) c.move_now.result c.move_now.ensures.moves c.move_now.ensures.shut)

pub returns-clause-keeps : goal.returns-clause-keeps
returns-clause-keeps g c = ok_then (M g c) c.move_now.result (λ m. keeps m) c.move_now.ensures.moves

pub returns-clause-part : goal.returns-clause-part
returns-clause-part g c = ok_then (M g c) c.move_now.result (λ m. moved_part m) c.move_now.ensures.moves
