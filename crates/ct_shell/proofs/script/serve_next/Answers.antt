use Rattle.std.proofs.Common.{ℕ, List, Ok, Some, subst, sym}
use Rattle.ct_script.specs.Script.{items_of}
use Rattle.ct_script.specs.declared.feed.Next.{Next}
use Rattle.ct_script.specs.declared.reply.Shown.TheVariants.{BadLine}
use Rattle.ct_tree.specs.Runs.{bad}
use Rattle.ct_shell.specs.Served.{Serves}
use Rattle.ct_shell.specs.Stream.{next_items}
use Rattle.ct_shell.proofs.Calls.{bad_replies, served_empty, served_reply}
use Rattle.ct_shell.proofs.script.serve_next.Goals as goal

pub returns-in-Line-clause-serves : goal.returns-in-Line-clause-serves
returns-in-Line-clause-serves g c n t keeps =
    let from = c.args.fs.now.state in
    let to = c.answer.new.fs.state in
    let old = g.O.Sink.written c.args.out.now in
    let new = g.O.Sink.written c.answer.new.out in
    subst (λ (next : Next). Serves n t (next_items next c.args.feed.now.line) from to old new c.answer.result) (sym c.in-Line.is)
    (subst (λ (line : List ℕ). Serves n t (items_of line) from to old new c.answer.result) c.line.ensures (c.answer.ensures.serves n t keeps))

pub returns-in-Overlong-clause-serves : goal.returns-in-Overlong-clause-serves
returns-in-Overlong-clause-serves g c n t keeps =
    let state = c.args.fs.now.state in
    let old = g.O.Sink.written c.args.out.now in
    let new = g.O.Sink.written c.send.new.out in
    subst (λ (next : Next). Serves n t (next_items next c.args.feed.now.line) state state old new c.send.result) (sym c.in-Overlong.is)
    (served_reply n t bad state state old new c.send.result (Some BadLine) (bad_replies n t state g.met.D.Pm.replays keeps) c.send.ensures.bytes)

pub returns-in-End-clause-serves : goal.returns-in-End-clause-serves
returns-in-End-clause-serves g c n t keeps =
    let state = c.args.fs.now.state in
    let old = g.O.Sink.written c.args.out.now in
    subst (λ (next : Next). Serves {T = Unit {0}} n t (next_items next c.args.feed.now.line) state state old old (Ok tt)) (sym c.in-End.is) (served_empty n t state old tt keeps)
