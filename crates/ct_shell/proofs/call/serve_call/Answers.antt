use Rattle.std.proofs.Common.{◌∷◌, [], ◌∙◌, sym, subst}
use Rattle.ct_tree.specs.Runs.{call as call_item}
use Rattle.ct_tree.specs.Step.{locate, op_of, stat}
use Rattle.ct_tree.specs.declared.call.Call.{Call}
use Rattle.ct_script.specs.declared.reply.Shown.{Shown}
use Rattle.std.specs.declared.option.Option.{Option}
use Rattle.ct_shell.specs.Served.{Serves}
use Rattle.ct_shell.specs.Shows.{Replies}
use Rattle.ct_shell.proofs.Calls.{changes, place_replies, served_reply, no_other, stat_replies}
use Rattle.ct_shell.proofs.call.serve_call.Goals as goal

pub reply_to_change-requires : goal.reply_to_change-requires
reply_to_change-requires g c = changes (op_of c.args.call.now) (sym c.is_change.ensures ∙ c.if-is_change.true)

pub returns-then-is_change-clause-serves : goal.returns-then-is_change-clause-serves
returns-then-is_change-clause-serves g c n t keeps =
    served_reply n t (call_item (op_of c.args.call.now)) c.args.fs.now.state c.reply_to_change.new.fs.state (g.O.Sink.written c.args.out.now) (g.O.Sink.written c.send.new.out) c.send.result
    c.reply_to_change.result (c.reply_to_change.ensures n t keeps) c.send.ensures.bytes

pub returns-in-Stat-clause-serves : goal.returns-in-Stat-clause-serves
returns-in-Stat-clause-serves g c n t keeps =
    let path = c.in-Stat.path.now in
    let state = c.args.fs.now.state in
    let old = g.O.Sink.written c.args.out.now in
    let new = g.O.Sink.written c.send-in-Stat.new.out in
    let replies : Replies n t (call_item (stat path)) state state c.stat_reply.result =
    subst (λ (o : Option Shown). Replies n t (call_item (stat path)) state state o) (sym c.stat_reply.ensures) (stat_replies n t path state g.met.D.Pm.replays c.stat.result keeps c.stat.ensures.answer) in
    subst (λ (m : Call). Serves n t (call_item (op_of m) ∷ []) state state old new c.send-in-Stat.result) (sym c.in-Stat.is)
    (served_reply n t (call_item (stat path)) state state old new c.send-in-Stat.result c.stat_reply.result replies c.send-in-Stat.ensures.bytes)

pub returns-in-Where-clause-serves : goal.returns-in-Where-clause-serves
returns-in-Where-clause-serves g c n t keeps =
    let path = c.in-Where.path.now in
    let state = c.args.fs.now.state in
    let old = g.O.Sink.written c.args.out.now in
    let new = g.O.Sink.written c.send-in-Where.new.out in
    let replies : Replies n t (call_item (locate path)) state state c.place_reply.result =
    subst (λ (o : Option Shown). Replies n t (call_item (locate path)) state state o) (sym c.place_reply.ensures) (place_replies n t path state g.met.D.Pm.replays c.locate.result keeps c.locate.ensures.answer) in
    subst (λ (m : Call). Serves n t (call_item (op_of m) ∷ []) state state old new c.send-in-Where.result) (sym c.in-Where.is)
    (served_reply n t (call_item (locate path)) state state old new c.send-in-Where.result c.place_reply.result replies c.send-in-Where.ensures.bytes)

pub unreachable-requires : goal.unreachable-requires
unreachable-requires g c = no_other c.args.call.now (sym c.is_change.ensures ∙ c.if-is_change.false) c.in_default.not-Stat c.in_default.not-List c.in_default.not-Read c.in_default.not-Where
