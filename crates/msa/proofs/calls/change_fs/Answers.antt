use Rattle.ct_tree.specs.Step.{op_of}
use Rattle.msa.proofs.Asking.{placed}
use Rattle.msa.proofs.calls.change_fs.Goals as goal

pub returns-clause-place : goal.returns-clause-place
returns-clause-place c =
    let said = c.change.ensures in
    placed (op_of c.args.call.now) c.args.fs.now c.change.new.self (record { dead = said.dead; still = said.still; does = said.does; places = said.places }) c.device.ensures.rest
