use Rattle.ct_tree.specs.Runs.{call}
use Rattle.ct_tree.specs.Step.{read}
use Rattle.ct_shell.proofs.Calls.{served_reply}
use Rattle.ct_shell.proofs.read.read.Goals as goal

pub returns-clause-serves : goal.returns-clause-serves
returns-clause-serves g c n t keeps =
    let state = c.args.fs.now.state in
    served_reply n t (call (read c.args.path.now c.args.off c.args.len)) state state (g.O.Sink.written c.args.out.now) (g.O.Sink.written c.send.new.out) c.send.result
    c.reply_to_read.result (c.reply_to_read.ensures n t keeps) c.send.ensures.bytes
