use Rattle.std.proofs.Common.{arith}
use Rattle.ct_base.specs.Rules.{placed}
use Rattle.ct_write.proofs.Turning.{still_phase}
use Rattle.ct_write.proofs.Opening.{can_record, first_from, first_to, fits_slot, low_end, open_missing, opened, rest_of, second_to, write_sized}
use Rattle.ct_write.proofs.Reaching.{recorded_agrees}
use Rattle.ct_write.proofs.Telling.{done_ready, done_sound, done_written, end_told, record_told, told_spares, write_done, write_phase}
use Rattle.ct_write.proofs.Files.{file_written}
use Rattle.ct_write.specs.Written.{IsWritten}
use Rattle.ct_write.proofs.whole.write_given.Goals as goal

pub overflow_add-from : goal.overflow_add-from
overflow_add-from g c = omega (arith, low_end c.requires.can c.get-file.ensures)

pub touched-n-requires-clause-fits : goal.touched-n-requires-clause-fits
touched-n-requires-clause-fits g c = fits_slot c.requires.can

pub overflow_add-edit : goal.overflow_add-edit
overflow_add-edit g c = omega (arith, low_end c.requires.can c.get-file.ensures)

pub overflow_add-off : goal.overflow_add-off
overflow_add-off g c = omega (arith, fits_slot c.requires.can)

pub prepare-requires-clause-rest : goal.prepare-requires-clause-rest
prepare-requires-clause-rest g c = rest_of c.requires.can.ready

pub prepare-requires-clause-placed : goal.prepare-requires-clause-placed
prepare-requires-clause-placed g c = c.requires.can.ready.rules placed (omega arith)

pub prepare-requires-clause-first_from : goal.prepare-requires-clause-first_from
prepare-requires-clause-first_from g c = first_from (opened c.args.given.now c.requires.can c.requires.bytes c.get-file.ensures c.page_of-a.ensures c.staged_page-b.ensures c.touched-n.ensures)

pub prepare-requires-clause-first_to : goal.prepare-requires-clause-first_to
prepare-requires-clause-first_to g c = first_to (opened c.args.given.now c.requires.can c.requires.bytes c.get-file.ensures c.page_of-a.ensures c.staged_page-b.ensures c.touched-n.ensures)

pub prepare-requires-clause-second_to : goal.prepare-requires-clause-second_to
prepare-requires-clause-second_to g c = second_to (opened c.args.given.now c.requires.can c.requires.bytes c.get-file.ensures c.page_of-a.ensures c.staged_page-b.ensures c.touched-n.ensures)

pub prepare-requires-clause-room : goal.prepare-requires-clause-room
prepare-requires-clause-room g c = omega (arith, open_missing (opened c.args.given.now c.requires.can c.requires.bytes c.get-file.ensures c.page_of-a.ensures c.staged_page-b.ensures c.touched-n.ensures), c.requires.room)

pub returns-in-Err-clause-phase : goal.returns-in-Err-clause-phase
returns-in-Err-clause-phase g c = still_phase (λ after. IsWritten (g.D.Pm.words c.args.dev) after c.args.inode c.args.off c.args.len c.args.given.now) c.prepare.ensures.phase

pub write_now-requires-clause-can : goal.write_now-requires-clause-can
write_now-requires-clause-can g c = can_record (opened c.args.given.now c.requires.can c.requires.bytes c.get-file.ensures c.page_of-a.ensures c.staged_page-b.ensures c.touched-n.ensures) c.in-Ok.ensures.prepared

pub write_now-requires-clause-spares : goal.write_now-requires-clause-spares
write_now-requires-clause-spares g c =
    told_spares (opened c.args.given.now c.requires.can c.requires.bytes c.get-file.ensures c.page_of-a.ensures c.staged_page-b.ensures c.touched-n.ensures) c.in-Ok.ensures.prepared c.prepare.ensures.phase (write_sized (opened c.args.given.now c.requires.can c.requires.bytes c.get-file.ensures c.page_of-a.ensures c.staged_page-b.ensures c.touched-n.ensures) c.max-size.ensures)

pub returns-in-Err-write_now-clause-phase : goal.returns-in-Err-write_now-clause-phase
returns-in-Err-write_now-clause-phase g c = write_phase (opened c.args.given.now c.requires.can c.requires.bytes c.get-file.ensures c.page_of-a.ensures c.staged_page-b.ensures c.touched-n.ensures) c.max-size.ensures (
    record_told (opened c.args.given.now c.requires.can c.requires.bytes c.get-file.ensures c.page_of-a.ensures c.staged_page-b.ensures c.touched-n.ensures) c.in-Ok.ensures.prepared c.prepare.ensures.phase (write_sized (opened c.args.given.now c.requires.can c.requires.bytes c.get-file.ensures c.page_of-a.ensures c.staged_page-b.ensures c.touched-n.ensures) c.max-size.ensures) c.in-Err-write_now.ensures.phase)

pub unstage-requires-clause-agrees : goal.unstage-requires-clause-agrees
unstage-requires-clause-agrees g c = recorded_agrees c.in-Ok-write_now.ensures.recorded c.in-Ok.ensures.agrees

pub returns-in-Err-unstage-clause-phase : goal.returns-in-Err-unstage-clause-phase
returns-in-Err-unstage-clause-phase g c = write_phase (opened c.args.given.now c.requires.can c.requires.bytes c.get-file.ensures c.page_of-a.ensures c.staged_page-b.ensures c.touched-n.ensures) c.max-size.ensures (
    end_told (opened c.args.given.now c.requires.can c.requires.bytes c.get-file.ensures c.page_of-a.ensures c.staged_page-b.ensures c.touched-n.ensures) c.in-Ok.ensures.prepared c.prepare.ensures.phase (write_sized (opened c.args.given.now c.requires.can c.requires.bytes c.get-file.ensures c.page_of-a.ensures c.staged_page-b.ensures c.touched-n.ensures) c.max-size.ensures) c.in-Ok-write_now.ensures.recorded c.in-Ok-write_now.ensures.shut
    (record_told (opened c.args.given.now c.requires.can c.requires.bytes c.get-file.ensures c.page_of-a.ensures c.staged_page-b.ensures c.touched-n.ensures) c.in-Ok.ensures.prepared c.prepare.ensures.phase (write_sized (opened c.args.given.now c.requires.can c.requires.bytes c.get-file.ensures c.page_of-a.ensures c.staged_page-b.ensures c.touched-n.ensures) c.max-size.ensures) c.in-Ok-write_now.ensures.phase)
    (c.unstage.ensures.images c.in-Ok-write_now.ensures.settled) c.unstage.ensures.either c.unstage.ensures.made)

pub returns-in-Ok-unstage-clause-phase : goal.returns-in-Ok-unstage-clause-phase
returns-in-Ok-unstage-clause-phase g c = write_phase (opened c.args.given.now c.requires.can c.requires.bytes c.get-file.ensures c.page_of-a.ensures c.staged_page-b.ensures c.touched-n.ensures) c.max-size.ensures (
    end_told (opened c.args.given.now c.requires.can c.requires.bytes c.get-file.ensures c.page_of-a.ensures c.staged_page-b.ensures c.touched-n.ensures) c.in-Ok.ensures.prepared c.prepare.ensures.phase (write_sized (opened c.args.given.now c.requires.can c.requires.bytes c.get-file.ensures c.page_of-a.ensures c.staged_page-b.ensures c.touched-n.ensures) c.max-size.ensures) c.in-Ok-write_now.ensures.recorded c.in-Ok-write_now.ensures.shut
    (record_told (opened c.args.given.now c.requires.can c.requires.bytes c.get-file.ensures c.page_of-a.ensures c.staged_page-b.ensures c.touched-n.ensures) c.in-Ok.ensures.prepared c.prepare.ensures.phase (write_sized (opened c.args.given.now c.requires.can c.requires.bytes c.get-file.ensures c.page_of-a.ensures c.staged_page-b.ensures c.touched-n.ensures) c.max-size.ensures) c.in-Ok-write_now.ensures.phase)
    (c.unstage.ensures.images c.in-Ok-write_now.ensures.settled) c.unstage.ensures.either c.unstage.ensures.made)

pub returns-in-Ok-unstage-clause-written : goal.returns-in-Ok-unstage-clause-written
returns-in-Ok-unstage-clause-written g c = write_done (opened c.args.given.now c.requires.can c.requires.bytes c.get-file.ensures c.page_of-a.ensures c.staged_page-b.ensures c.touched-n.ensures) c.max-size.ensures (done_written (opened c.args.given.now c.requires.can c.requires.bytes c.get-file.ensures c.page_of-a.ensures c.staged_page-b.ensures c.touched-n.ensures) c.in-Ok.ensures.prepared c.prepare.ensures.phase (write_sized (opened c.args.given.now c.requires.can c.requires.bytes c.get-file.ensures c.page_of-a.ensures c.staged_page-b.ensures c.touched-n.ensures) c.max-size.ensures) c.in-Ok-write_now.ensures.recorded c.in-Ok-write_now.ensures.shut c.in-Ok-unstage.ensures.words)

pub returns-in-Ok-unstage-clause-ready : goal.returns-in-Ok-unstage-clause-ready
returns-in-Ok-unstage-clause-ready g c = done_ready (opened c.args.given.now c.requires.can c.requires.bytes c.get-file.ensures c.page_of-a.ensures c.staged_page-b.ensures c.touched-n.ensures) c.in-Ok.ensures.prepared c.prepare.ensures.phase (write_sized (opened c.args.given.now c.requires.can c.requires.bytes c.get-file.ensures c.page_of-a.ensures c.staged_page-b.ensures c.touched-n.ensures) c.max-size.ensures) c.in-Ok-write_now.ensures.recorded c.in-Ok-write_now.ensures.shut c.in-Ok-unstage.ensures.words

pub returns-in-Ok-unstage-clause-taken : goal.returns-in-Ok-unstage-clause-taken
returns-in-Ok-unstage-clause-taken g c = omega (arith, open_missing (opened c.args.given.now c.requires.can c.requires.bytes c.get-file.ensures c.page_of-a.ensures c.staged_page-b.ensures c.touched-n.ensures), c.in-Ok.ensures.taken, c.unstage.ensures.more)

pub returns-in-Ok-unstage-clause-file : goal.returns-in-Ok-unstage-clause-file
returns-in-Ok-unstage-clause-file g c = file_written c.requires.can (write_done (opened c.args.given.now c.requires.can c.requires.bytes c.get-file.ensures c.page_of-a.ensures c.staged_page-b.ensures c.touched-n.ensures) c.max-size.ensures (done_written (opened c.args.given.now c.requires.can c.requires.bytes c.get-file.ensures c.page_of-a.ensures c.staged_page-b.ensures c.touched-n.ensures) c.in-Ok.ensures.prepared c.prepare.ensures.phase (write_sized (opened c.args.given.now c.requires.can c.requires.bytes c.get-file.ensures c.page_of-a.ensures c.staged_page-b.ensures c.touched-n.ensures) c.max-size.ensures) c.in-Ok-write_now.ensures.recorded c.in-Ok-write_now.ensures.shut c.in-Ok-unstage.ensures.words))

pub returns-in-Ok-unstage-clause-sound : goal.returns-in-Ok-unstage-clause-sound
returns-in-Ok-unstage-clause-sound g c = done_sound (opened c.args.given.now c.requires.can c.requires.bytes c.get-file.ensures c.page_of-a.ensures c.staged_page-b.ensures c.touched-n.ensures) c.in-Ok.ensures.prepared c.prepare.ensures.phase (write_sized (opened c.args.given.now c.requires.can c.requires.bytes c.get-file.ensures c.page_of-a.ensures c.staged_page-b.ensures c.touched-n.ensures) c.max-size.ensures) c.in-Ok-write_now.ensures.recorded c.in-Ok-write_now.ensures.shut c.in-Ok-unstage.ensures.words
