use Rattle.std.proofs.Common.{Some}
use Rattle.ct_record.specs.Seen.{device_behind}
use Rattle.ct_call.specs.Placed.{Places}
use Rattle.ct_call.proofs.Carried.{left_has, ok_two}
use Rattle.ct_call.proofs.Resting.{does_over}
use Rattle.ct_find.specs.Kinds.{leave_op}
use Rattle.ct_remove.proofs.Planned.{after_stands, call_phase, changes, lands_pages, places}
use Rattle.ct_remove.proofs.call.remove_in.Goals as goal

pub returns-in-Err-clause-does : goal.returns-in-Err-clause-does
returns-in-Err-clause-does g c t = let op = leave_op c.args.kind c.args.path.now in
    does_over t op c.mounted.view_is (λ st. c.refused.ensures.does t op (changes c.args.kind c.args.path.now) st (c.in-Err.ensures.answer t st))

pub ended-requires-clause-pages : goal.ended-requires-clause-pages
ended-requires-clause-pages g c = lands_pages _ _ _ (g.D.Pm.words (device_behind c.remove-carried.result)) c.remove-carried.ensures.phase.reads.has

pub returns-clause-does : goal.returns-clause-does
returns-clause-does g c t = let op = leave_op c.args.kind c.args.path.now in does_over t op c.mounted.view_is (λ st.
    let r = c.remove-carried.result in
    let e = c.remove-carried.ensures in
    let can = c.in-Ok.ensures.answer t st in
    let rest = c.mounted.invariant.rest in
    c.ended.ensures.does _ t op (record { change = changes c.args.kind c.args.path.now; rest = rest; stands = st; can = can })
    (ok_two r (λ objects counted. record { stands = after_stands rest c.in-Ok.ensures.entry c.in-Ok.ensures.leaf c.args.kind t st can.allowed objects; counted = counted }) e.objects e.counted)
    (call_phase rest c.in-Ok.ensures.entry c.in-Ok.ensures.leaf c.args.kind t st can.allowed e.phase) e.cause)

pub returns-clause-places : goal.returns-clause-places
returns-clause-places g c = let r = c.remove-carried.result in let f = c.in-Ok.ensures in
    left_has (λ old new. Places (g.D.Pm.words old) (g.D.Pm.words new) (leave_op c.args.kind c.args.path.now)) (Some c.ended.result.0) c.remove-carried.result c.remove-carried.new.frames c.ended.result.1 c.mounted.view_is c.ended.ensures.done c.ended.ensures.left
    (ok_two r (λ taken free. places c.mounted.invariant.rest f.entry (g.D.Pm.words (device_behind r)) c.args.kind c.in-Ok.found.1 c.mounted.inside.frames c.remove-carried.new.frames f.inode f.counted free taken) c.remove-carried.ensures.taken c.ended.ensures.free)
