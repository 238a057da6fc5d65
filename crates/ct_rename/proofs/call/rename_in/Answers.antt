use Rattle.std.proofs.Common.{Some}
use Rattle.ct_record.specs.Seen.{device_behind}
use Rattle.ct_tree.specs.Step.{rename}
use Rattle.ct_call.specs.Placed.{Places}
use Rattle.ct_call.proofs.Carried.{left_has, ok_four, ok_two}
use Rattle.ct_call.proofs.Resting.{does_over}
use Rattle.ct_rename.proofs.Carrying.{after_stands, call_phase, has_tree}
use Rattle.ct_rename.proofs.Locating.{places}
use Rattle.ct_rename.proofs.call.rename_in.Goals as goal

pub carry_out-carried-requires-clause-tree : goal.carry_out-carried-requires-clause-tree
carry_out-carried-requires-clause-tree g c = has_tree c.args.path.now c.args.to.now c.mounted.invariant.rest c.in-Ok.found.0 c.in-Ok.ensures.form (λ t st. (c.in-Ok.ensures.answer t st).allowed)

pub returns-in-Err-clause-does : goal.returns-in-Err-clause-does
returns-in-Err-clause-does g c t = let op = rename c.args.path.now c.args.to.now in
    does_over t op c.mounted.view_is (λ st. c.refused.ensures.does t op tt st (c.in-Err.ensures.answer t st))

pub returns-clause-does : goal.returns-clause-does
returns-clause-does g c t = let op = rename c.args.path.now c.args.to.now in does_over t op c.mounted.view_is (λ st.
    let r = c.carry_out-carried.result in
    let e = c.carry_out-carried.ensures in
    let can = c.in-Ok.ensures.answer t st in
    let rest = c.mounted.invariant.rest in
    c.ended.ensures.does _ t op (record { change = tt; rest = rest; stands = st; can = can })
    (ok_two r (λ objects counted. record { stands = after_stands c.args.path.now c.args.to.now rest c.in-Ok.found.0 c.in-Ok.ensures.form st can.allowed objects; counted = counted }) e.objects e.counted)
    (call_phase c.args.path.now c.args.to.now rest c.in-Ok.found.0 c.in-Ok.ensures.form st can.allowed e.phase) e.cause)

pub returns-clause-places : goal.returns-clause-places
returns-clause-places g c = let r = c.carry_out-carried.result in let e = c.carry_out-carried.ensures in let f = c.in-Ok.ensures in
    left_has (λ old new. Places (g.D.Pm.words old) (g.D.Pm.words new) (rename c.args.path.now c.args.to.now)) (Some c.ended.result.0) c.carry_out-carried.result c.carry_out-carried.new.frames c.ended.result.1 c.mounted.view_is c.ended.ensures.done c.ended.ensures.left
    (ok_four r (λ objects moved taken free. places c.args.path.now c.args.to.now c.mounted.invariant.rest c.in-Ok.found.0 f.form c.in-Ok.found.1 f.plan (g.D.Pm.words (device_behind r)) objects c.mounted.inside.frames c.carry_out-carried.new.frames f.fits.opens f.counted free moved taken) e.objects e.moved e.taken c.ended.ensures.free)
