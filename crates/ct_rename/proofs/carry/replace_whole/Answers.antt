use Rattle.std.proofs.Common.{inl, inr, arith}
use Rattle.std.proofs.lemmas.Result.{err_from_is_err_and}
use Rattle.ct_remove.proofs.Asked.{owns_or}
use Rattle.ct_remove.proofs.Whole.{readied_asked, readied_can, readied_level, rest_asked}
use Rattle.ct_call.proofs.Rooms.{ready_here}
use Rattle.ct_rename.proofs.Ending.{before_only, can_ready, record_then, tree_ready, whole_agrees, whole_counted, whole_files, whole_mounted, whole_phase, whole_settled}
use Rattle.ct_rename.proofs.carry.replace_whole.Goals as goal

pub prepare_whole-requires-clause-ready : goal.prepare_whole-requires-clause-ready
prepare_whole-requires-clause-ready g c = ready_here c.requires.mounted.rest c.requires.mounted.unstaged

pub prepare_whole-requires-clause-owns : goal.prepare_whole-requires-clause-owns
prepare_whole-requires-clause-owns g c = elim (owns_or (rest_asked c.requires.mounted.rest c.requires.leaf)) [ inl owns ↦ owns | inr none ↦ absurd (c.requires.has (omega (arith, none, c.requires.level))) ]

pub returns-in-Err-clause-phase : goal.returns-in-Err-clause-phase
returns-in-Err-clause-phase g c = before_only c.requires.mounted.rest c.prepare_whole.ensures.phase

pub replace_now-requires-clause-can : goal.replace_now-requires-clause-can
replace_now-requires-clause-can g c = can_ready c.requires.mounted.rest c.requires.leaf c.in-Ok.ensures.readied c.requires.can

pub replace_now-requires-clause-asked : goal.replace_now-requires-clause-asked
replace_now-requires-clause-asked g c = readied_asked c.requires.mounted.rest c.requires.leaf c.in-Ok.ensures.readied

pub replace_now-requires-clause-level : goal.replace_now-requires-clause-level
replace_now-requires-clause-level g c = readied_level c.requires.mounted.rest c.requires.leaf c.in-Ok.ensures.readied c.requires.level

pub replace_now-requires-clause-give : goal.replace_now-requires-clause-give
replace_now-requires-clause-give g c has = readied_can c.requires.mounted.rest c.requires.leaf c.in-Ok.ensures.readied

pub replace_now-requires-clause-tree : goal.replace_now-requires-clause-tree
replace_now-requires-clause-tree g c = tree_ready c.requires.mounted.rest c.requires.leaf c.in-Ok.ensures.readied c.args.entry.dir c.args.entry.offset c.args.entry.number c.args.name.now c.requires.tree

pub returns-in_err-dev-clause-phase : goal.returns-in_err-dev-clause-phase
returns-in_err-dev-clause-phase g c = let p = err_from_is_err_and c.from_residual.result c.from_residual.ensures.1 in rw (p.1, p.2) (record_then c.requires.mounted.rest c.requires.leaf c.in-Ok.ensures.readied c.args.entry.dir c.args.entry.offset c.args.entry.number c.args.name.now c.prepare_whole.ensures.phase c.in_err-dev.ensures.phase)

pub unstage-requires-clause-tables : goal.unstage-requires-clause-tables
unstage-requires-clause-tables g c = (whole_settled c.requires.mounted.rest c.requires.leaf c.in-Ok.ensures.readied c.requires.can c.requires.away c.requires.tree c.in_ok-dev.ensures.replaces c.in_ok-dev.ensures.bytes c.in_ok-dev.ensures.shut).tables

pub unstage-requires-clause-agrees : goal.unstage-requires-clause-agrees
unstage-requires-clause-agrees g c = whole_agrees c.requires.mounted.rest c.requires.leaf c.in-Ok.ensures.readied c.requires.can c.requires.away c.requires.tree c.in_ok-dev.ensures.replaces c.in_ok-dev.ensures.bytes c.in_ok-dev.ensures.shut c.in-Ok.ensures.agrees

pub returns-in-Ok-unstage-clause-objects : goal.returns-in-Ok-unstage-clause-objects
returns-in-Ok-unstage-clause-objects g c = whole_files c.requires.mounted.rest c.requires.leaf c.in-Ok.ensures.readied c.requires.can c.requires.away c.requires.tree c.in_ok-dev.ensures.replaces c.in_ok-dev.ensures.bytes c.in_ok-dev.ensures.shut c.in-Ok-unstage.ensures.words

pub returns-in-Ok-unstage-clause-counted : goal.returns-in-Ok-unstage-clause-counted
returns-in-Ok-unstage-clause-counted g c = whole_counted c.requires.mounted.rest c.requires.leaf c.in-Ok.ensures.readied c.requires.can c.requires.away c.requires.tree c.in_ok-dev.ensures.replaces c.in_ok-dev.ensures.bytes c.in_ok-dev.ensures.shut c.in-Ok-unstage.ensures.words

pub returns-in-Ok-unstage-clause-mounted : goal.returns-in-Ok-unstage-clause-mounted
returns-in-Ok-unstage-clause-mounted g c =
    whole_mounted c.requires.mounted.rest c.requires.leaf c.in-Ok.ensures.readied c.requires.can c.requires.away c.requires.tree c.in_ok-dev.ensures.replaces c.in_ok-dev.ensures.bytes c.in_ok-dev.ensures.shut c.in-Ok-unstage.ensures.words c.requires.mounted.unstaged
    (c.in-Ok-unstage.ensures.settled c.in_ok-dev.ensures.settled) c.in-Ok-unstage.ensures.agrees

pub returns-in-Ok-unstage-clause-phase : goal.returns-in-Ok-unstage-clause-phase
returns-in-Ok-unstage-clause-phase g c =
    whole_phase c.requires.mounted.rest c.requires.leaf c.in-Ok.ensures.readied c.requires.can c.requires.away c.requires.tree c.in_ok-dev.ensures.replaces c.in_ok-dev.ensures.bytes c.in_ok-dev.ensures.shut c.prepare_whole.ensures.phase c.in_ok-dev.ensures.phase
    (c.unstage.ensures.images c.in_ok-dev.ensures.settled) c.unstage.ensures.either c.unstage.ensures.made

pub returns-in-Err-unstage-clause-phase : goal.returns-in-Err-unstage-clause-phase
returns-in-Err-unstage-clause-phase g c =
    whole_phase c.requires.mounted.rest c.requires.leaf c.in-Ok.ensures.readied c.requires.can c.requires.away c.requires.tree c.in_ok-dev.ensures.replaces c.in_ok-dev.ensures.bytes c.in_ok-dev.ensures.shut c.prepare_whole.ensures.phase c.in_ok-dev.ensures.phase
    (c.unstage.ensures.images c.in_ok-dev.ensures.settled) c.unstage.ensures.either c.unstage.ensures.made
