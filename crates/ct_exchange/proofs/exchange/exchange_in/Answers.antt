use Rattle.std.proofs.Common.{sym, Some, ap, subst, arith}
use Rattle.std.proofs.lemmas.Result.{on_ok_weaker}
use Rattle.ct_record.specs.Seen.{device_behind}
use Rattle.ct_tree.specs.Step.{exchange}
use Rattle.ct_call.proofs.Carried.{left_has, ok_two}
use Rattle.ct_call.proofs.Resting.{does_over}
use Rattle.ct_call.specs.Placed.{Places}
use Rattle.ct_exchange.proofs.Carrying.{lands_pages}
use Rattle.ct_find.specs.Directories.{KeepsDirectories}
use Rattle.ct_inode.specs.Live.{KeepsLive}
use Rattle.ct_exchange.proofs.Kept.{directories_on, live_on}
use Rattle.ct_exchange.proofs.Told.{exchange_places, reaches, swap_op, swaps_walks, told_phase}
use Rattle.ct_exchange.specs.Swapped.{SwapsWalks}
use Rattle.ct_exchange.specs.declared.plan.Ranges.{Ranges}
use Rattle.ct_exchange.proofs.exchange.exchange_in.Goals as goal

pub returns-in-Err-clause-does : goal.returns-in-Err-clause-does
returns-in-Err-clause-does g c t = let op = exchange c.args.path.now c.args.off c.args.other.now c.args.other_off c.args.len in
    does_over t op c.mounted.view_is (λ st. c.refused.ensures.does t op tt st (c.in-Err.ensures.answer t st))

pub ended-requires-clause-pages : goal.ended-requires-clause-pages
ended-requires-clause-pages g c = lands_pages (g.D.Pm.words c.mounted.inside.dev) c.in-Ok.found.0 (g.D.Pm.words (device_behind c.carry_out-carried.result)) c.carry_out-carried.ensures.phase.reads.has

pub returns-clause-does : goal.returns-clause-does
returns-clause-does g c t = let op = exchange c.args.path.now c.args.off c.args.other.now c.args.other_off c.args.len in does_over t op c.mounted.view_is (λ st.
    let can = c.in-Ok.ensures.answer t st in
    let is = ap (swap_op c.args.path.now c.args.other.now) c.in-Ok.ensures.numbers in
    let rest = c.mounted.invariant.rest in
    c.ended.ensures.does _ t op (record { change = tt; rest = rest; stands = st; can = can })
    (ok_two c.carry_out-carried.result (reaches rest c.args.path.now c.args.other.now c.in-Ok.found.0 c.in-Ok.ensures.first c.in-Ok.ensures.second c.in-Ok.ensures.can is t st can.allowed) c.carry_out-carried.ensures.files c.carry_out-carried.ensures.counted)
    (told_phase rest c.args.path.now c.args.other.now c.in-Ok.found.0 c.in-Ok.ensures.first c.in-Ok.ensures.second c.in-Ok.ensures.can is t st can.allowed c.carry_out-carried.ensures.phase) c.carry_out-carried.ensures.cause)

pub returns-clause-places : goal.returns-clause-places
returns-clause-places g c = let op = exchange c.args.path.now c.args.off c.args.other.now c.args.other_off c.args.len in
    left_has (λ old new. Places (g.D.Pm.words old) (g.D.Pm.words new) op) (Some c.ended.result.0) c.carry_out-carried.result c.carry_out-carried.new.frames c.ended.result.1 c.mounted.view_is c.ended.ensures.done c.ended.ensures.left
    (ok_two c.carry_out-carried.result (λ taken free. exchange_places (g.D.Pm.words c.mounted.inside.dev) (g.D.Pm.words (device_behind c.carry_out-carried.result)) c.args.path.now c.args.other.now c.args.off c.args.other_off c.args.len _ _ _
    c.in-Ok.ensures.need c.in-Ok.ensures.counted free (omega (arith, taken))) c.carry_out-carried.ensures.taken c.ended.ensures.free)

pub returns-clause-walks : goal.returns-clause-walks
returns-clause-walks g c = left_has (λ old new. SwapsWalks (g.D.Pm.words old) (g.D.Pm.words new) c.args.path.now c.args.off c.args.other.now c.args.other_off c.args.len) (Some c.ended.result.0) c.carry_out-carried.result c.carry_out-carried.new.frames c.ended.result.1 c.mounted.view_is c.ended.ensures.done c.ended.ensures.left
    (on_ok_weaker c.carry_out-carried.result (λ swapped. subst (λ (r : Ranges). SwapsWalks (g.D.Pm.words c.mounted.inside.dev) (g.D.Pm.words (device_behind c.carry_out-carried.result)) c.args.path.now r.off c.args.other.now r.other_off r.len) c.in-Ok.ensures.numbers
    (swaps_walks c.mounted.invariant.rest c.args.path.now c.args.other.now c.in-Ok.found.0 c.in-Ok.ensures.first c.in-Ok.ensures.second c.in-Ok.ensures.can (g.D.Pm.words (device_behind c.carry_out-carried.result)) swapped)) c.carry_out-carried.ensures.swapped)

pub returns-clause-live : goal.returns-clause-live
returns-clause-live g c = let r = c.carry_out-carried.result in let e = c.carry_out-carried.ensures in
    left_has (λ old new. KeepsLive (g.D.Pm.words old) (g.D.Pm.words new)) (Some c.ended.result.0) r c.carry_out-carried.new.frames c.ended.result.1 c.mounted.view_is c.ended.ensures.done c.ended.ensures.left
    (ok_two r (λ counted swapped. live_on c.mounted.invariant.rest c.in-Ok.found.0 c.in-Ok.ensures.can (g.D.Pm.words (device_behind r)) counted swapped) e.counted e.files)

pub returns-clause-directories : goal.returns-clause-directories
returns-clause-directories g c = let r = c.carry_out-carried.result in
    left_has (λ old new. KeepsDirectories (g.D.Pm.words old) (g.D.Pm.words new)) (Some c.ended.result.0) r c.carry_out-carried.new.frames c.ended.result.1 c.mounted.view_is c.ended.ensures.done c.ended.ensures.left
    (on_ok_weaker r (λ swapped. directories_on c.mounted.invariant.rest c.in-Ok.found.0 c.in-Ok.ensures.can (g.D.Pm.words (device_behind r)) swapped) c.carry_out-carried.ensures.files)

pub prepare-requires-clause-known : goal.prepare-requires-clause-known
prepare-requires-clause-known g c = subst (λ v. g.F.Finder.agrees c.args.finder.now (g.D.Pm.words v.dev)) (sym c.mounted.view_is) c.requires
