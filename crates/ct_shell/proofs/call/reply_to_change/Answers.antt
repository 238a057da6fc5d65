use Rattle.std.proofs.Common.{sym, subst}
use Rattle.std.specs.declared.option.Option.{Option}
use Rattle.ct_tree.specs.Runs.{call as call_item}
use Rattle.ct_tree.specs.Step.{op_of}
use Rattle.ct_script.specs.declared.reply.Shown.{Shown}
use Rattle.ct_shell.specs.Shows.{Replies}
use Rattle.ct_shell.proofs.Calls.{made_replies}
use Rattle.ct_shell.proofs.call.reply_to_change.Goals as goal

pub returns : goal.returns
returns g c n t keeps =
    let op = op_of c.args.call.now in
    subst (λ (o : Option Shown). Replies n t (call_item op) c.args.fs.now.state c.change.new.self.state o) (sym c.made_reply.ensures)
    (made_replies n t op c.args.fs.now.state c.change.new.self.state g.met.D.Pm.replays c.change.result keeps c.change.ensures.does c.change.ensures.places)
