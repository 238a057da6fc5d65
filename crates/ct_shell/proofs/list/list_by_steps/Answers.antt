use Rattle.std.proofs.Common.{arith}
use Rattle.ct_tree.specs.Checks.{at}
use Rattle.ct_tree.specs.Runs.{call}
use Rattle.ct_tree.specs.Step.{list, listed_in}
use Rattle.ct_tree.specs.declared.call.Reply.TheVariants.{Names}
use Rattle.ct_shell.proofs.Calls.{list_passes, list_replies, served_put, served_reply}
use Rattle.ct_shell.proofs.Kept.{held}
use Rattle.ct_shell.proofs.list.list_by_steps.Goals as goal

pub returns-in-Ok-clause-serves : goal.returns-in-Ok-clause-serves
returns-in-Ok-clause-serves g c n t keeps =
    let path = c.args.path.now in
    let state = c.args.fs.now.state in
    let h = held n state t keeps in
    let look = c.in-Ok.ensures h.0 h.1 t h.2.stands in
    let put = c.put_entries.ensures.bytes h.0 h.1 t h.2.stands look.0 look.1 in
    served_put n t (call (list path)) state state (g.O.Sink.written c.args.out.now) (g.O.Sink.written c.put_entries.new.out) c.put_entries.result (Names (listed_in (at t path))) t
    (list_passes n t path state g.met.D.Pm.replays keeps look.0) keeps (omega arith) put.0 put.1

pub returns-in-Err-clause-serves : goal.returns-in-Err-clause-serves
returns-in-Err-clause-serves g c n t keeps =
    let path = c.args.path.now in
    let state = c.args.fs.now.state in
    let h = held n state t keeps in
    let reply = list_replies n t path state g.met.D.Pm.replays c.in-Err.error c.error_reply.result c.error_reply.ensures keeps (c.in-Err.ensures h.0 h.1 t h.2.stands) in
    served_reply n t (call (list path)) state state (g.O.Sink.written c.args.out.now) (g.O.Sink.written c.send.new.out) c.send.result c.error_reply.result reply c.send.ensures.bytes
