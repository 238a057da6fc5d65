use Rattle.std.proofs.Common.{◌≡◌, ℕ, Option, length, sym, subst, arith}
use Rattle.ct_base.specs.Bytes.{PutAppends}
use Rattle.ct_look.specs.Looks.{IsListed}
use Rattle.ct_look.specs.declared.seen.Listing.{Listing}
use Rattle.ct_script.specs.Texts.{reply_line}
use Rattle.ct_tree.specs.Checks.{at}
use Rattle.ct_tree.specs.Runs.{call}
use Rattle.ct_tree.specs.Step.{list, listed_in, refusal}
use Rattle.ct_tree.specs.declared.call.Reply.TheVariants.{Names}
use Rattle.ct_shell.proofs.Calls.{list_passes, list_replies, served_put, served_reply}
use Rattle.ct_shell.proofs.Kept.{held}
use Rattle.ct_shell.proofs.Names.{refused_alike}
use Rattle.ct_shell.proofs.list.list.Goals as goal

pub returns-in-Ok-Some-clause-serves : goal.returns-in-Ok-Some-clause-serves
returns-in-Ok-Some-clause-serves g c n t keeps =
    let path = c.args.path.now in
    let state = c.args.fs.now.state in
    let h = held n state t keeps in
    let look = c.in-Ok-Some.ensures.answer h.0 h.1 t h.2.stands in
    let named = subst (λ (found : Option Listing). IsListed (g.D.Pm.words h.0.dev) (listed_in (at t path)) c.args.offsets.now c.entries.new.offsets found) c.in-Ok-Some.field-0-is look.1 in
    let put = c.put_sorted.ensures.bytes h.0 h.1 in
    let from = g.O.Sink.written c.args.out.now in
    let to = g.O.Sink.written c.put_sorted.new.out in
    served_put n t (call (list path)) state state from to c.put_sorted.result (Names (listed_in (at t path))) t
    (list_passes n t path state g.met.D.Pm.replays keeps look.0) keeps (omega arith) (subst (λ names. PutAppends from to c.put_sorted.result (reply_line (Names names))) (sym named) put.0) put.1

pub returns-in-Err-clause-serves : goal.returns-in-Err-clause-serves
returns-in-Err-clause-serves g c n t keeps =
    let path = c.args.path.now in
    let state = c.args.fs.now.state in
    let h = held n state t keeps in
    let looked : Option Listing → Type 0 = IsListed (g.D.Pm.words h.0.dev) (listed_in (at t path)) c.args.offsets.now c.entries.new.offsets in
    let reply = list_replies n t path state g.met.D.Pm.replays c.in-Err.error c.error_reply.result c.error_reply.ensures keeps (refused_alike looked (λ (count : ℕ). count ≡ length (listed_in (at t path))) (refusal t (list path)) c.in-Err.error (c.in-Err.ensures.answer h.0 h.1 t h.2.stands)) in
    served_reply n t (call (list path)) state state (g.O.Sink.written c.args.out.now) (g.O.Sink.written c.send.new.out) c.send.result c.error_reply.result reply c.send.ensures.bytes
