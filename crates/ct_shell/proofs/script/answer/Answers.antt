use Rattle.std.proofs.Common.{◌≡◌, ◌∙◌, ◌∷◌, [], List, Ok, Some, sym, ap, subst}
use Rattle.std.specs.declared.option.Option.{Option}
use Rattle.ct_tree.specs.Runs.{Item, bad, call}
use Rattle.ct_tree.specs.Step.{Op, op_of}
use Rattle.ct_script.specs.Grammar.{call_of}
use Rattle.ct_script.specs.Script.{item_of, items_of}
use Rattle.ct_script.specs.declared.reply.Shown.TheVariants.{BadLine}
use Rattle.ct_shell.specs.Served.{Serves}
use Rattle.ct_shell.proofs.Calls.{bad_replies, served_empty, served_reply}
use Rattle.ct_shell.proofs.script.answer.Goals as goal

pub returns-then-is_empty-clause-serves : goal.returns-then-is_empty-clause-serves
returns-then-is_empty-clause-serves g c n t keeps =
    let state = c.args.fs.now.state in
    let old = g.O.Sink.written c.args.out.now in
    let none : items_of c.args.raw.now ≡ [] = c.if-is_empty.ensures (item_of (call_of c.args.raw.now)) in
    subst (λ (items : List Item). Serves {T = Unit {0}} n t items state state old old (Ok tt)) (sym none) (served_empty n t state old tt keeps)

pub returns-in-Some-clause-serves : goal.returns-in-Some-clause-serves
returns-in-Some-clause-serves g c n t keeps =
    let one : items_of c.args.raw.now ≡ item_of (call_of c.args.raw.now) ∷ [] = c.if-is_empty.ensures (item_of (call_of c.args.raw.now)) in
    let is : item_of (call_of c.args.raw.now) ≡ call (op_of c.in-Some.call) = ap (λ (o : Option Op). item_of o) (sym c.in-Some.ensures) in
    subst (λ (items : List Item). Serves n t items c.args.fs.now.state c.serve_call.new.fs.state (g.O.Sink.written c.args.out.now) (g.O.Sink.written c.serve_call.new.out) c.serve_call.result) (sym (one ∙ ap (λ item. item ∷ []) is))
    (c.serve_call.ensures.serves n t keeps)

pub returns-in-None-clause-serves : goal.returns-in-None-clause-serves
returns-in-None-clause-serves g c n t keeps =
    let state = c.args.fs.now.state in
    let old = g.O.Sink.written c.args.out.now in
    let new = g.O.Sink.written c.send.new.out in
    let one : items_of c.args.raw.now ≡ item_of (call_of c.args.raw.now) ∷ [] = c.if-is_empty.ensures (item_of (call_of c.args.raw.now)) in
    let is : item_of (call_of c.args.raw.now) ≡ bad = ap (λ (o : Option Op). item_of o) (sym c.in-None.ensures) in
    subst (λ (items : List Item). Serves n t items state state old new c.send.result) (sym (one ∙ ap (λ item. item ∷ []) is))
    (served_reply n t bad state state old new c.send.result (Some BadLine) (bad_replies n t state g.met.D.Pm.replays keeps) c.send.ensures.bytes)
