use Rattle.std.proofs.Common.{◌-◌, ◌*◌, refl, ap, arith}
use Rattle.ct_base.specs.declared.inode.Inode.{Inode}
use Rattle.ct_base.specs.Rules.{placed}
use Rattle.ct_stage.specs.declared.edit.Given.TheVariants.{Same}
use Rattle.ct_cut.specs.Cut.{IsShorter}
use Rattle.ct_cut.proofs.Shortening.{as_write, cut_missing, cut_numbers, end_called, rest_is, shorter, shorter_file, shorter_phase, zero_bytes, zero_size}
use Rattle.ct_write.proofs.Opening.{can_record, first_from, first_to, opened, rest_of, second_to}
use Rattle.ct_write.proofs.Reaching.{recorded_agrees}
use Rattle.ct_write.proofs.Telling.{done_ready, done_sound, done_written, end_told, record_told, told_spares}
use Rattle.ct_write.proofs.Turning.{still_phase}
use Rattle.ct_cut.proofs.whole.cut_inside.Goals as goal

pub overflow_cast-file : goal.overflow_cast-file
overflow_cast-file g c = omega (arith, (cut_numbers c.requires.can c.get-file.ensures).0)

pub pow-requires : goal.pow-requires
pow-requires g c = omega (arith, (cut_numbers c.requires.can c.get-file.ensures).1)

pub overflow_mul-rest : goal.overflow_mul-rest
overflow_mul-rest g c = omega (arith, (cut_numbers c.requires.can c.get-file.ensures).1, c.pow.ensures)

pub overflow_sub-rest : goal.overflow_sub-rest
overflow_sub-rest g c = omega (arith, (cut_numbers c.requires.can c.get-file.ensures).2, c.pow.ensures)

pub overflow_add-from : goal.overflow_add-from
overflow_add-from g c = omega (arith, (cut_numbers c.requires.can c.get-file.ensures).2, (cut_numbers c.requires.can c.get-file.ensures).3)

pub touched-n-requires-clause-some : goal.touched-n-requires-clause-some
touched-n-requires-clause-some g c = omega (arith, (cut_numbers c.requires.can c.get-file.ensures).2, c.pow.ensures)

pub touched-n-requires-clause-fits : goal.touched-n-requires-clause-fits
touched-n-requires-clause-fits g c = omega (arith, (cut_numbers c.requires.can c.get-file.ensures).1, (cut_numbers c.requires.can c.get-file.ensures).2, c.pow.ensures)

pub overflow_add-from-2 : goal.overflow_add-from-2
overflow_add-from-2 g c = omega (arith, (cut_numbers c.requires.can c.get-file.ensures).2, (cut_numbers c.requires.can c.get-file.ensures).3, c.pow.ensures)

pub prepare_range-requires-clause-rest : goal.prepare_range-requires-clause-rest
prepare_range-requires-clause-rest g c = rest_of c.requires.can.ready

pub prepare_range-requires-clause-placed : goal.prepare_range-requires-clause-placed
prepare_range-requires-clause-placed g c = c.requires.can.ready.rules placed (omega arith)

pub prepare_range-requires-clause-first_from : goal.prepare_range-requires-clause-first_from
prepare_range-requires-clause-first_from g c = first_from (opened (Same 0) (as_write c.requires.can (4096 * c.pow.result - c.args.len) (rest_is c.args.len c.get-file.ensures c.pow.ensures)) (zero_bytes c.requires.can (4096 * c.pow.result - c.args.len) (rest_is c.args.len c.get-file.ensures c.pow.ensures)) c.get-file.ensures c.page_of-a.ensures c.staged_page-b.ensures c.touched-n.ensures)

pub prepare_range-requires-clause-first_to : goal.prepare_range-requires-clause-first_to
prepare_range-requires-clause-first_to g c = first_to (opened (Same 0) (as_write c.requires.can (4096 * c.pow.result - c.args.len) (rest_is c.args.len c.get-file.ensures c.pow.ensures)) (zero_bytes c.requires.can (4096 * c.pow.result - c.args.len) (rest_is c.args.len c.get-file.ensures c.pow.ensures)) c.get-file.ensures c.page_of-a.ensures c.staged_page-b.ensures c.touched-n.ensures)

pub prepare_range-requires-clause-second_to : goal.prepare_range-requires-clause-second_to
prepare_range-requires-clause-second_to g c = second_to (opened (Same 0) (as_write c.requires.can (4096 * c.pow.result - c.args.len) (rest_is c.args.len c.get-file.ensures c.pow.ensures)) (zero_bytes c.requires.can (4096 * c.pow.result - c.args.len) (rest_is c.args.len c.get-file.ensures c.pow.ensures)) c.get-file.ensures c.page_of-a.ensures c.staged_page-b.ensures c.touched-n.ensures)

pub prepare_range-requires-clause-ends : goal.prepare_range-requires-clause-ends
prepare_range-requires-clause-ends g c = end_called c.requires.can (4096 * c.pow.result - c.args.len) (rest_is c.args.len c.get-file.ensures c.pow.ensures) c.get-file.ensures c.page_of-a.ensures c.touched-n.ensures

pub prepare_range-requires-clause-room : goal.prepare_range-requires-clause-room
prepare_range-requires-clause-room g c = omega (arith, cut_missing c.requires.can (4096 * c.pow.result - c.args.len) (rest_is c.args.len c.get-file.ensures c.pow.ensures) (ap (λ (f : Inode). f.base) c.get-file.ensures) refl c.page_of-a.ensures c.staged_page-b.ensures c.touched-n.ensures, c.requires.room)

pub returns-in-Err-clause-phase : goal.returns-in-Err-clause-phase
returns-in-Err-clause-phase g c = still_phase (λ after. IsShorter (g.D.Pm.words c.args.dev) after c.args.inode c.args.len) c.prepare_range.ensures.phase

pub write_now-requires-clause-can : goal.write_now-requires-clause-can
write_now-requires-clause-can g c = can_record (opened (Same 0) (as_write c.requires.can (4096 * c.pow.result - c.args.len) (rest_is c.args.len c.get-file.ensures c.pow.ensures)) (zero_bytes c.requires.can (4096 * c.pow.result - c.args.len) (rest_is c.args.len c.get-file.ensures c.pow.ensures)) c.get-file.ensures c.page_of-a.ensures c.staged_page-b.ensures c.touched-n.ensures) c.in-Ok.ensures.prepared

pub write_now-requires-clause-spares : goal.write_now-requires-clause-spares
write_now-requires-clause-spares g c =
    told_spares (opened (Same 0) (as_write c.requires.can (4096 * c.pow.result - c.args.len) (rest_is c.args.len c.get-file.ensures c.pow.ensures)) (zero_bytes c.requires.can (4096 * c.pow.result - c.args.len) (rest_is c.args.len c.get-file.ensures c.pow.ensures)) c.get-file.ensures c.page_of-a.ensures c.staged_page-b.ensures c.touched-n.ensures) c.in-Ok.ensures.prepared c.prepare_range.ensures.phase (zero_size c.requires.can (4096 * c.pow.result - c.args.len) (rest_is c.args.len c.get-file.ensures c.pow.ensures))

pub returns-in-Err-write_now-clause-phase : goal.returns-in-Err-write_now-clause-phase
returns-in-Err-write_now-clause-phase g c = shorter_phase c.requires.can (4096 * c.pow.result - c.args.len) (rest_is c.args.len c.get-file.ensures c.pow.ensures) (record_told (opened (Same 0) (as_write c.requires.can (4096 * c.pow.result - c.args.len) (rest_is c.args.len c.get-file.ensures c.pow.ensures)) (zero_bytes c.requires.can (4096 * c.pow.result - c.args.len) (rest_is c.args.len c.get-file.ensures c.pow.ensures)) c.get-file.ensures c.page_of-a.ensures c.staged_page-b.ensures c.touched-n.ensures) c.in-Ok.ensures.prepared c.prepare_range.ensures.phase (zero_size c.requires.can (4096 * c.pow.result - c.args.len) (rest_is c.args.len c.get-file.ensures c.pow.ensures)) c.in-Err-write_now.ensures.phase)

pub unstage-requires-clause-agrees : goal.unstage-requires-clause-agrees
unstage-requires-clause-agrees g c = recorded_agrees c.in-Ok-write_now.ensures.recorded c.in-Ok.ensures.agrees

pub returns-in-Err-unstage-clause-phase : goal.returns-in-Err-unstage-clause-phase
returns-in-Err-unstage-clause-phase g c = shorter_phase c.requires.can (4096 * c.pow.result - c.args.len) (rest_is c.args.len c.get-file.ensures c.pow.ensures) (end_told (opened (Same 0) (as_write c.requires.can (4096 * c.pow.result - c.args.len) (rest_is c.args.len c.get-file.ensures c.pow.ensures)) (zero_bytes c.requires.can (4096 * c.pow.result - c.args.len) (rest_is c.args.len c.get-file.ensures c.pow.ensures)) c.get-file.ensures c.page_of-a.ensures c.staged_page-b.ensures c.touched-n.ensures) c.in-Ok.ensures.prepared c.prepare_range.ensures.phase (zero_size c.requires.can (4096 * c.pow.result - c.args.len) (rest_is c.args.len c.get-file.ensures c.pow.ensures)) c.in-Ok-write_now.ensures.recorded c.in-Ok-write_now.ensures.shut
    (record_told (opened (Same 0) (as_write c.requires.can (4096 * c.pow.result - c.args.len) (rest_is c.args.len c.get-file.ensures c.pow.ensures)) (zero_bytes c.requires.can (4096 * c.pow.result - c.args.len) (rest_is c.args.len c.get-file.ensures c.pow.ensures)) c.get-file.ensures c.page_of-a.ensures c.staged_page-b.ensures c.touched-n.ensures) c.in-Ok.ensures.prepared c.prepare_range.ensures.phase (zero_size c.requires.can (4096 * c.pow.result - c.args.len) (rest_is c.args.len c.get-file.ensures c.pow.ensures)) c.in-Ok-write_now.ensures.phase) (c.unstage.ensures.images c.in-Ok-write_now.ensures.settled) c.unstage.ensures.either c.unstage.ensures.made)

pub returns-in-Ok-unstage-clause-phase : goal.returns-in-Ok-unstage-clause-phase
returns-in-Ok-unstage-clause-phase g c = shorter_phase c.requires.can (4096 * c.pow.result - c.args.len) (rest_is c.args.len c.get-file.ensures c.pow.ensures) (end_told (opened (Same 0) (as_write c.requires.can (4096 * c.pow.result - c.args.len) (rest_is c.args.len c.get-file.ensures c.pow.ensures)) (zero_bytes c.requires.can (4096 * c.pow.result - c.args.len) (rest_is c.args.len c.get-file.ensures c.pow.ensures)) c.get-file.ensures c.page_of-a.ensures c.staged_page-b.ensures c.touched-n.ensures) c.in-Ok.ensures.prepared c.prepare_range.ensures.phase (zero_size c.requires.can (4096 * c.pow.result - c.args.len) (rest_is c.args.len c.get-file.ensures c.pow.ensures)) c.in-Ok-write_now.ensures.recorded c.in-Ok-write_now.ensures.shut
    (record_told (opened (Same 0) (as_write c.requires.can (4096 * c.pow.result - c.args.len) (rest_is c.args.len c.get-file.ensures c.pow.ensures)) (zero_bytes c.requires.can (4096 * c.pow.result - c.args.len) (rest_is c.args.len c.get-file.ensures c.pow.ensures)) c.get-file.ensures c.page_of-a.ensures c.staged_page-b.ensures c.touched-n.ensures) c.in-Ok.ensures.prepared c.prepare_range.ensures.phase (zero_size c.requires.can (4096 * c.pow.result - c.args.len) (rest_is c.args.len c.get-file.ensures c.pow.ensures)) c.in-Ok-write_now.ensures.phase) (c.unstage.ensures.images c.in-Ok-write_now.ensures.settled) c.unstage.ensures.either c.unstage.ensures.made)

pub returns-in-Ok-unstage-clause-shorter : goal.returns-in-Ok-unstage-clause-shorter
returns-in-Ok-unstage-clause-shorter g c = shorter c.requires.can (4096 * c.pow.result - c.args.len) (rest_is c.args.len c.get-file.ensures c.pow.ensures) (done_written (opened (Same 0) (as_write c.requires.can (4096 * c.pow.result - c.args.len) (rest_is c.args.len c.get-file.ensures c.pow.ensures)) (zero_bytes c.requires.can (4096 * c.pow.result - c.args.len) (rest_is c.args.len c.get-file.ensures c.pow.ensures)) c.get-file.ensures c.page_of-a.ensures c.staged_page-b.ensures c.touched-n.ensures) c.in-Ok.ensures.prepared c.prepare_range.ensures.phase (zero_size c.requires.can (4096 * c.pow.result - c.args.len) (rest_is c.args.len c.get-file.ensures c.pow.ensures)) c.in-Ok-write_now.ensures.recorded c.in-Ok-write_now.ensures.shut c.in-Ok-unstage.ensures.words)

pub returns-in-Ok-unstage-clause-file : goal.returns-in-Ok-unstage-clause-file
returns-in-Ok-unstage-clause-file g c = shorter_file c.requires.can (4096 * c.pow.result - c.args.len) (rest_is c.args.len c.get-file.ensures c.pow.ensures) (done_written (opened (Same 0) (as_write c.requires.can (4096 * c.pow.result - c.args.len) (rest_is c.args.len c.get-file.ensures c.pow.ensures)) (zero_bytes c.requires.can (4096 * c.pow.result - c.args.len) (rest_is c.args.len c.get-file.ensures c.pow.ensures)) c.get-file.ensures c.page_of-a.ensures c.staged_page-b.ensures c.touched-n.ensures) c.in-Ok.ensures.prepared c.prepare_range.ensures.phase (zero_size c.requires.can (4096 * c.pow.result - c.args.len) (rest_is c.args.len c.get-file.ensures c.pow.ensures)) c.in-Ok-write_now.ensures.recorded c.in-Ok-write_now.ensures.shut c.in-Ok-unstage.ensures.words)

pub returns-in-Ok-unstage-clause-sound : goal.returns-in-Ok-unstage-clause-sound
returns-in-Ok-unstage-clause-sound g c = done_sound (opened (Same 0) (as_write c.requires.can (4096 * c.pow.result - c.args.len) (rest_is c.args.len c.get-file.ensures c.pow.ensures)) (zero_bytes c.requires.can (4096 * c.pow.result - c.args.len) (rest_is c.args.len c.get-file.ensures c.pow.ensures)) c.get-file.ensures c.page_of-a.ensures c.staged_page-b.ensures c.touched-n.ensures) c.in-Ok.ensures.prepared c.prepare_range.ensures.phase (zero_size c.requires.can (4096 * c.pow.result - c.args.len) (rest_is c.args.len c.get-file.ensures c.pow.ensures)) c.in-Ok-write_now.ensures.recorded c.in-Ok-write_now.ensures.shut c.in-Ok-unstage.ensures.words

pub returns-in-Ok-unstage-clause-ready : goal.returns-in-Ok-unstage-clause-ready
returns-in-Ok-unstage-clause-ready g c = done_ready (opened (Same 0) (as_write c.requires.can (4096 * c.pow.result - c.args.len) (rest_is c.args.len c.get-file.ensures c.pow.ensures)) (zero_bytes c.requires.can (4096 * c.pow.result - c.args.len) (rest_is c.args.len c.get-file.ensures c.pow.ensures)) c.get-file.ensures c.page_of-a.ensures c.staged_page-b.ensures c.touched-n.ensures) c.in-Ok.ensures.prepared c.prepare_range.ensures.phase (zero_size c.requires.can (4096 * c.pow.result - c.args.len) (rest_is c.args.len c.get-file.ensures c.pow.ensures)) c.in-Ok-write_now.ensures.recorded c.in-Ok-write_now.ensures.shut c.in-Ok-unstage.ensures.words

pub returns-in-Ok-unstage-clause-taken : goal.returns-in-Ok-unstage-clause-taken
returns-in-Ok-unstage-clause-taken g c = omega (arith, cut_missing c.requires.can (4096 * c.pow.result - c.args.len) (rest_is c.args.len c.get-file.ensures c.pow.ensures) (ap (λ (f : Inode). f.base) c.get-file.ensures) refl c.page_of-a.ensures c.staged_page-b.ensures c.touched-n.ensures, c.in-Ok.ensures.taken, c.unstage.ensures.more)
