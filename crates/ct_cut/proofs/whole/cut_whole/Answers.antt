use Rattle.ct_cut.specs.Cut.{IsEmptied}
use Rattle.ct_cut.proofs.Emptied.{done_file, empty_end, empty_spares, empty_there, empty_told, emptied_agrees, last_done, last_ready, last_sound}
use Rattle.ct_cut.proofs.Shortening.{cut_room}
use Rattle.ct_write.proofs.Turning.{still_phase}
use Rattle.ct_cut.proofs.whole.cut_whole.Goals as goal

pub prepare_whole-requires-clause-owns : goal.prepare_whole-requires-clause-owns
prepare_whole-requires-clause-owns g c = record { live = c.requires.can.live; level = (cut_room c.requires.can).part.level }

pub returns-in-Err-clause-phase : goal.returns-in-Err-clause-phase
returns-in-Err-clause-phase g c = still_phase (λ after. IsEmptied (g.D.Pm.words c.args.dev) after c.args.inode) c.prepare_whole.ensures.phase

pub empty_now-requires-clause-there : goal.empty_now-requires-clause-there
empty_now-requires-clause-there g c = empty_there c.requires.can c.in-Ok.ensures.readied c.prepare_whole.ensures.phase

pub empty_now-requires-clause-spares : goal.empty_now-requires-clause-spares
empty_now-requires-clause-spares g c = empty_spares c.requires.can c.in-Ok.ensures.readied c.prepare_whole.ensures.phase

pub returns-in-Err-empty_now-clause-phase : goal.returns-in-Err-empty_now-clause-phase
returns-in-Err-empty_now-clause-phase g c = empty_told c.requires.can c.in-Ok.ensures.readied c.prepare_whole.ensures.phase c.in-Err-empty_now.ensures.phase

pub unstage-requires-clause-agrees : goal.unstage-requires-clause-agrees
unstage-requires-clause-agrees g c = emptied_agrees c.in-Ok-empty_now.ensures.emptied c.in-Ok.ensures.agrees

pub returns-in-Ok-unstage-clause-emptied : goal.returns-in-Ok-unstage-clause-emptied
returns-in-Ok-unstage-clause-emptied g c = (last_done c.requires.can c.in-Ok.ensures.readied c.prepare_whole.ensures.phase c.in-Ok-empty_now.ensures.emptied c.in-Ok-empty_now.ensures.shut c.in-Ok-unstage.ensures.words).emptied

pub returns-in-Ok-unstage-clause-file : goal.returns-in-Ok-unstage-clause-file
returns-in-Ok-unstage-clause-file g c = done_file (last_done c.requires.can c.in-Ok.ensures.readied c.prepare_whole.ensures.phase c.in-Ok-empty_now.ensures.emptied c.in-Ok-empty_now.ensures.shut c.in-Ok-unstage.ensures.words)

pub returns-in-Ok-unstage-clause-sound : goal.returns-in-Ok-unstage-clause-sound
returns-in-Ok-unstage-clause-sound g c = last_sound c.requires.can c.in-Ok.ensures.readied c.prepare_whole.ensures.phase c.in-Ok-empty_now.ensures.emptied c.in-Ok-empty_now.ensures.shut c.in-Ok-unstage.ensures.words

pub returns-in-Ok-unstage-clause-ready : goal.returns-in-Ok-unstage-clause-ready
returns-in-Ok-unstage-clause-ready g c = last_ready c.requires.can c.in-Ok.ensures.readied c.prepare_whole.ensures.phase c.in-Ok-empty_now.ensures.emptied c.in-Ok-empty_now.ensures.shut c.in-Ok-unstage.ensures.words

pub returns-in-Ok-unstage-clause-phase : goal.returns-in-Ok-unstage-clause-phase
returns-in-Ok-unstage-clause-phase g c = empty_end c.requires.can c.in-Ok.ensures.readied c.prepare_whole.ensures.phase c.in-Ok-empty_now.ensures.emptied c.in-Ok-empty_now.ensures.shut (empty_told c.requires.can c.in-Ok.ensures.readied c.prepare_whole.ensures.phase c.in-Ok-empty_now.ensures.phase) (c.unstage.ensures.images c.in-Ok-empty_now.ensures.settled) c.unstage.ensures.either c.unstage.ensures.made

pub returns-in-Err-unstage-clause-phase : goal.returns-in-Err-unstage-clause-phase
returns-in-Err-unstage-clause-phase g c = empty_end c.requires.can c.in-Ok.ensures.readied c.prepare_whole.ensures.phase c.in-Ok-empty_now.ensures.emptied c.in-Ok-empty_now.ensures.shut (empty_told c.requires.can c.in-Ok.ensures.readied c.prepare_whole.ensures.phase c.in-Ok-empty_now.ensures.phase) (c.unstage.ensures.images c.in-Ok-empty_now.ensures.settled) c.unstage.ensures.either c.unstage.ensures.made
