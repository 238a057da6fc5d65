use Rattle.std.proofs.Common.{Some, subst, sym}
use Rattle.std.proofs.lemmas.Result.{on_ok_weaker}
use Rattle.ct_record.specs.Seen.{device_behind}
use Rattle.ct_call.specs.Placed.{Places}
use Rattle.ct_call.proofs.Carried.{left_has, ok_three, ok_two}
use Rattle.ct_call.proofs.Resting.{does_over}
use Rattle.ct_edit.specs.Edits.{edit_op}
use Rattle.ct_find.specs.Directories.{KeepsDirectories}
use Rattle.ct_inode.specs.Live.{KeepsLive}
use Rattle.ct_edit.proofs.Kept.{directories_on, live_on}
use Rattle.ct_edit.proofs.Preparing.{bytes_made, changes, places}
use Rattle.ct_edit.proofs.Rewritten.{changed_pages}
use Rattle.ct_edit.proofs.Told.{stands_after, tree_phase}
use Rattle.ct_edit.proofs.whole.edit_in.Goals as goal

pub returns-in-Err-clause-does : goal.returns-in-Err-clause-does
returns-in-Err-clause-does g c t = let op = edit_op c.args.path.now c.args.edit in
    does_over t op c.mounted.view_is (λ st. c.refused.ensures.does t op (changes c.args.path.now c.args.edit) st (c.in-Err.ensures.answer t st))

pub ended-requires-clause-pages : goal.ended-requires-clause-pages
ended-requires-clause-pages g c = changed_pages (g.D.Pm.words (device_behind c.carry_out-carried.result)) c.carry_out-carried.ensures.phase.reads.has

pub returns-clause-does : goal.returns-clause-does
returns-clause-does g c t = let op = edit_op c.args.path.now c.args.edit in does_over t op c.mounted.view_is (λ st.
    let r = c.carry_out-carried.result in
    let e = c.carry_out-carried.ensures in
    let can = c.in-Ok.ensures.answer t st in
    let rest = c.mounted.invariant.rest in
    let file = c.in-Ok.ensures.file in
    let made = bytes_made file c.args.edit c.in-Ok.ensures.task in
    c.ended.ensures.does _ t op (record { change = changes c.args.path.now c.args.edit; rest = rest; stands = st; can = can })
    (ok_three r (λ mounted counted done. record { stands = stands_after rest file made st can.allowed mounted.rest counted done; counted = counted }) e.mounted e.counted e.changes)
    (tree_phase rest file made st can.allowed e.phase) e.cause)

pub returns-clause-places : goal.returns-clause-places
returns-clause-places g c = let r = c.carry_out-carried.result in let e = c.carry_out-carried.ensures in let f = c.in-Ok.ensures in
    left_has (λ old new. Places (g.D.Pm.words old) (g.D.Pm.words new) (edit_op c.args.path.now c.args.edit)) (Some c.ended.result.0) c.carry_out-carried.result c.carry_out-carried.new.frames c.ended.result.1 c.mounted.view_is c.ended.ensures.done c.ended.ensures.left
    (ok_three r (λ moved taken free. places f.file c.args.edit f.task c.mounted.invariant.rest f.plan f.fits (g.D.Pm.words (device_behind r)) c.carry_out-carried.new.frames moved f.counted free taken) e.moved e.taken c.ended.ensures.free)

pub returns-clause-live : goal.returns-clause-live
returns-clause-live g c = let r = c.carry_out-carried.result in let e = c.carry_out-carried.ensures in
    left_has (λ old new. KeepsLive (g.D.Pm.words old) (g.D.Pm.words new)) (Some c.ended.result.0) r c.carry_out-carried.new.frames c.ended.result.1 c.mounted.view_is c.ended.ensures.done c.ended.ensures.left
    (ok_two r (λ counted changed. live_on c.mounted.invariant.rest c.in-Ok.ensures.file (g.D.Pm.words (device_behind r)) counted changed) e.counted e.changes)

pub returns-clause-directories : goal.returns-clause-directories
returns-clause-directories g c = let r = c.carry_out-carried.result in
    left_has (λ old new. KeepsDirectories (g.D.Pm.words old) (g.D.Pm.words new)) (Some c.ended.result.0) r c.carry_out-carried.new.frames c.ended.result.1 c.mounted.view_is c.ended.ensures.done c.ended.ensures.left
    (on_ok_weaker r (λ changed. directories_on c.mounted.invariant.rest c.in-Ok.ensures.file (g.D.Pm.words (device_behind r)) changed) c.carry_out-carried.ensures.changes)

pub prepare-requires-clause-known : goal.prepare-requires-clause-known
prepare-requires-clause-known g c = subst (λ v. g.F.Finder.agrees c.args.finder.now (g.D.Pm.words v.dev)) (sym c.mounted.view_is) c.requires
