use Rattle.ct_shell.proofs.Calls.{read_passes, read_refused, read_told}
use Rattle.ct_shell.proofs.Kept.{held}
use Rattle.ct_shell.proofs.read.reply_to_read.Goals as goal

pub returns-in-Ok : goal.returns-in-Ok
returns-in-Ok g c n t keeps =
    let path = c.args.path.now in
    let state = c.args.fs.now.state in
    let h = held n state t keeps in
    read_told n t path c.args.off c.args.len state _ keeps (read_passes n t path c.args.off c.args.len state g.met.D.Pm.replays c.args.buf.now c.read.new.buf c.in-Ok.count keeps (c.in-Ok.ensures.answer h.0 h.1 t h.2.stands))

pub returns-in-Err : goal.returns-in-Err
returns-in-Err g c n t keeps =
    let path = c.args.path.now in
    let state = c.args.fs.now.state in
    let h = held n state t keeps in
    read_refused n t path c.args.off c.args.len state g.met.D.Pm.replays c.args.buf.now c.read.new.buf c.in-Err.error c.error_reply.result c.error_reply.ensures keeps (c.in-Err.ensures.answer h.0 h.1 t h.2.stands)
