use Rattle.std.proofs.Common.{◌≡◌, Some, subst, sym}
use Rattle.ct_record.specs.Seen.{device_behind}
use Rattle.ct_tree.specs.Checks.{names}
use Rattle.ct_tree.specs.Resolve.{parent}
use Rattle.ct_call.specs.Calls.{StandsFor, after, most_pairs}
use Rattle.ct_call.specs.Placed.{Places}
use Rattle.ct_call.proofs.Carried.{left_has, ok_two}
use Rattle.ct_call.proofs.Pairs.{least_pairs}
use Rattle.ct_call.proofs.Resting.{does_over}
use Rattle.ct_enter.specs.Entry.{with_node}
use Rattle.ct_inode.specs.Live.{AreLiveBelow, KeepsLive}
use Rattle.ct_enter.specs.Makes.{make_op}
use Rattle.ct_enter.proofs.Lasting.{call_phase, lands_pages}
use Rattle.ct_enter.proofs.Named.{after_make}
use Rattle.ct_enter.proofs.Numbers.{live_before}
use Rattle.ct_enter.proofs.Placing.{ok_six, places}
use Rattle.ct_enter.proofs.Planned.{changes}
use Rattle.ct_enter.proofs.create.make_in.Goals as goal

pub prepare-requires-clause-live : goal.prepare-requires-clause-live
prepare-requires-clause-live g c = subst (λ v. AreLiveBelow (g.D.Pm.words v.dev) c.args.free_from.now) (sym c.mounted.view_is) c.requires.live

pub returns-in-Err-clause-does : goal.returns-in-Err-clause-does
returns-in-Err-clause-does g c t = let op = make_op c.args.kind c.args.path.now in
    does_over t op c.mounted.view_is (λ st. c.refused.ensures.does t op (changes c.args.kind c.args.path.now) st (c.in-Err.ensures.answer c.args.kind t st))

pub ended-requires-clause-pages : goal.ended-requires-clause-pages
ended-requires-clause-pages g c = lands_pages (g.D.Pm.words (device_behind c.carry_out-carried.result)) c.carry_out-carried.ensures.phase.reads.has

pub returns-clause-does : goal.returns-clause-does
returns-clause-does g c t = let op = make_op c.args.kind c.args.path.now in does_over t op c.mounted.view_is (λ st.
    let can = c.in-Ok.ensures.answer c.args.kind t st in
    let spot = c.in-Ok.ensures.spot in
    let xs = parent (names c.args.path.now) in
    let is : with_node t xs c.in-Ok.found.0.name.now c.number.result ≡ after t op = after_make c.args.kind t c.args.path.now can.allowed spot.last spot.lawful c.number.ensures in
    c.ended.ensures.does _ t op (record { change = changes c.args.kind c.args.path.now; rest = c.mounted.invariant.rest; stands = st; can = can })
    (ok_two c.carry_out-carried.result (λ node counted. record { stands = subst (StandsFor (g.D.Pm.words (device_behind c.carry_out-carried.result))) is (node xs t st spot.parent); counted = counted }) c.carry_out-carried.ensures.node c.carry_out-carried.ensures.counted)
    (call_phase t (after t op) xs (most_pairs op) (least_pairs op) st spot.parent is c.carry_out-carried.ensures.phase) c.carry_out-carried.ensures.cause)

pub returns-clause-places : goal.returns-clause-places
returns-clause-places g c = let e = c.carry_out-carried.ensures in let r = c.carry_out-carried.result in let f = c.in-Ok.ensures in
    left_has (λ old new. Places (g.D.Pm.words old) (g.D.Pm.words new) (make_op c.args.kind c.args.path.now)) (Some c.ended.result.0) c.carry_out-carried.result c.carry_out-carried.new.frames c.ended.result.1 c.mounted.view_is c.ended.ensures.done c.ended.ensures.left
    (ok_six r (λ slot object size moved taken free. places (g.D.Pm.words (device_behind r)) c.carry_out-carried.new.frames c.mounted.invariant.rest f.spot.next f.first f.plan f.fits c.args.kind c.args.path.now f.spot.parent
    c.in-Ok.found.0.name.now f.spot.last c.number.ensures slot object size moved f.counted free taken) e.slot e.object e.size e.moved e.taken c.ended.ensures.free)

pub returns-clause-below : goal.returns-clause-below
returns-clause-below g c = let inside = live_before (g.D.Pm.words c.mounted.inside.dev) c.in-Ok.found.1 c.in-Ok.ensures.first in
    subst (λ v. AreLiveBelow (g.D.Pm.words v.dev) c.in-Ok.found.1) c.mounted.view_is inside

pub returns-clause-live : goal.returns-clause-live
returns-clause-live g c =
    left_has (λ old new. KeepsLive (g.D.Pm.words old) (g.D.Pm.words new)) (Some c.ended.result.0) c.carry_out-carried.result c.carry_out-carried.new.frames c.ended.result.1 c.mounted.view_is c.ended.ensures.done c.ended.ensures.left
    c.carry_out-carried.ensures.live
