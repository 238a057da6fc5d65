use Rattle.std.proofs.Common.{inl, inr, arith}
use Rattle.ct_remove.proofs.Asked.{owns_or}
use Rattle.ct_remove.proofs.Whole.{before_phase, readied_asked, readied_can, readied_level, record_phase, removed_agrees, rest_asked, whole_counted, whole_files, whole_mounted, whole_phase}
use Rattle.ct_call.proofs.Rooms.{ready_here}
use Rattle.ct_remove.proofs.remove.remove_whole.Goals as goal

pub prepare_whole-requires-clause-ready : goal.prepare_whole-requires-clause-ready
prepare_whole-requires-clause-ready g c = ready_here c.requires.mounted.rest c.requires.mounted.unstaged

pub prepare_whole-requires-clause-owns : goal.prepare_whole-requires-clause-owns
prepare_whole-requires-clause-owns g c = elim (owns_or (rest_asked c.requires.mounted.rest c.requires.leaf)) [ inl owns ↦ owns | inr none ↦ absurd (c.requires.has (omega (arith, none, c.requires.level))) ]

pub returns-in-Err-clause-phase : goal.returns-in-Err-clause-phase
returns-in-Err-clause-phase g c = before_phase c.requires.mounted.rest c.requires.leaf c.prepare_whole.ensures.phase

pub remove_now-requires-clause-asked : goal.remove_now-requires-clause-asked
remove_now-requires-clause-asked g c = readied_asked c.requires.mounted.rest c.requires.leaf c.in-Ok.ensures.readied

pub remove_now-requires-clause-level : goal.remove_now-requires-clause-level
remove_now-requires-clause-level g c = readied_level c.requires.mounted.rest c.requires.leaf c.in-Ok.ensures.readied c.requires.level

pub remove_now-requires-clause-can : goal.remove_now-requires-clause-can
remove_now-requires-clause-can g c has = readied_can c.requires.mounted.rest c.requires.leaf c.in-Ok.ensures.readied

pub returns-in-Err-remove_now-clause-phase : goal.returns-in-Err-remove_now-clause-phase
returns-in-Err-remove_now-clause-phase g c = record_phase c.requires.mounted.rest c.requires.leaf c.in-Ok.ensures.readied c.prepare_whole.ensures.phase c.in-Err-remove_now.ensures.phase

pub unstage-requires-clause-agrees : goal.unstage-requires-clause-agrees
unstage-requires-clause-agrees g c = removed_agrees c.in-Ok-remove_now.ensures.removes c.in-Ok.ensures.agrees

pub returns-in-Ok-unstage-clause-objects : goal.returns-in-Ok-unstage-clause-objects
returns-in-Ok-unstage-clause-objects g c = whole_files c.requires.mounted.rest c.requires.leaf c.in-Ok.ensures.readied c.in-Ok-remove_now.ensures.removes c.in-Ok-remove_now.ensures.shut c.in-Ok-unstage.ensures.words

pub returns-in-Ok-unstage-clause-counted : goal.returns-in-Ok-unstage-clause-counted
returns-in-Ok-unstage-clause-counted g c = whole_counted c.requires.mounted.rest c.requires.leaf c.in-Ok.ensures.readied c.in-Ok-remove_now.ensures.removes c.in-Ok-remove_now.ensures.shut c.in-Ok-unstage.ensures.words

pub returns-in-Ok-unstage-clause-mounted : goal.returns-in-Ok-unstage-clause-mounted
returns-in-Ok-unstage-clause-mounted g c =
    whole_mounted c.requires.mounted.rest c.requires.leaf c.in-Ok.ensures.readied c.in-Ok-remove_now.ensures.removes c.in-Ok-remove_now.ensures.shut c.in-Ok-unstage.ensures.words c.requires.mounted.unstaged
    (c.in-Ok-unstage.ensures.settled c.in-Ok-remove_now.ensures.settled) c.in-Ok-unstage.ensures.agrees

pub returns-in-Ok-unstage-clause-phase : goal.returns-in-Ok-unstage-clause-phase
returns-in-Ok-unstage-clause-phase g c =
    whole_phase c.requires.mounted.rest c.requires.leaf c.in-Ok.ensures.readied c.in-Ok-remove_now.ensures.removes c.in-Ok-remove_now.ensures.shut
    (record_phase c.requires.mounted.rest c.requires.leaf c.in-Ok.ensures.readied c.prepare_whole.ensures.phase c.in-Ok-remove_now.ensures.phase)
    (c.unstage.ensures.images c.in-Ok-remove_now.ensures.settled) c.unstage.ensures.either c.unstage.ensures.made

pub returns-in-Err-unstage-clause-phase : goal.returns-in-Err-unstage-clause-phase
returns-in-Err-unstage-clause-phase g c =
    whole_phase c.requires.mounted.rest c.requires.leaf c.in-Ok.ensures.readied c.in-Ok-remove_now.ensures.removes c.in-Ok-remove_now.ensures.shut
    (record_phase c.requires.mounted.rest c.requires.leaf c.in-Ok.ensures.readied c.prepare_whole.ensures.phase c.in-Ok-remove_now.ensures.phase)
    (c.unstage.ensures.images c.in-Ok-remove_now.ensures.settled) c.unstage.ensures.either c.unstage.ensures.made
